-- What all workers did, once their links have come back and the cache is closed.
use Rattle.std.proofs.Common.{◌≡◌, ℕ, zero, suc, ◌+◌, ◌*◌, ◌<◌, ◌≤◌, ◌^◌, ◌⊎◌, inl, inr, Bool, true, false, List, [], ◌∷◌, ◌++◌, length, get_or, Option, None, Some, refl, sym, ◌∙◌, ap, subst, arith}
use Rattle.std.specs.Prelude.{Result, Ok, Err, MatchBool}
use Rattle.std.specs.List.{All, AllZip, count_by, flat_map}
use Rattle.std.proofs.Math.Nat.{suc-mul}
use Rattle.std.proofs.lemmas.Bool.{false≢true}
use Rattle.std.proofs.lemmas.Slice.Zip.{AllZip-long}
use Rattle.std.proofs.lemmas.Option.{none-some, same_Some}
use Rattle.facts.proofs.Lists.{some_of}
use mathlib.Core.List.{IsPrefix}
use Rattle.denial_records.specs.declared.batch.Batch.{Batch}
use Rattle.cache_meaning.specs.Held.{Held}
use Rattle.cache_versions.specs.declared.state.State.{Ghosts}
use Rattle.cache_versions.specs.declared.seat.Seat.{Seat}
use Rattle.cache_versions.specs.Hands.{AreAllBelow}
use Rattle.cache_versions.specs.Seats.{places_by, seen_by}
use Rattle.resolver.specs.declared.shared_cache.SharedCache.{SharedCache}
use Rattle.outside_core.specs.Event.{TellsNone, received_in}
use Rattle.outside_core.specs.Fault.{Rose}
use Rattle.outside_core.specs.Returned.{Returned}
use Rattle.outside_core.specs.declared.datagram.Datagram.{Datagram}
use Rattle.outside_core.specs.declared.event.Event.{Event}
use Rattle.serving.specs.Links.{IsShift, LinksServe, Shift}
use Rattle.serving.specs.Rounds.{Round, turns_in}
use Rattle.serving.specs.Worker.{Ends, HasFaults, HasServed, more_told}
use Rattle.serving.specs.declared.serve_fault.ServeFault.{ServeFault}
use Rattle.serving.specs.declared.serve_fault.ServeFault.TheVariants.{Link, OutOfMemory}
use Rattle.serving.proofs.LinkLemmas.{links_serve, many_received, rose_above, shift_of}
use Rattle.serving.specs.declared.service.Service.{Service}
use Rattle.serving.specs.Back.{AllServed, AllServedWhole, CameBack, EndsEarly, AreAt, IsAt, IsUnused, NoneServed, OneFailed, OneUnbound, ServedInWant}
use Rattle.serving.specs.declared.serve_error.ServeError.TheVariants.{Harbor}
use Rattle.serving.specs.declared.serve_error.ServeError.TheVariants as errors
use Rattle.serving.specs.Sight.{Sight, AreBack, AreNew, IsCounted, IsNew, faults_of, returned}
use Rattle.serving.specs.Workers.{End, HasWorked, HaveEnded, HaveServed, IsWorst, has_failed, has_wanted}
use Rattle.serving.proofs.BackLemmas.{all_unfailed, came_weaker, faults_back, rose_counted, shown}
use Rattle.serving.proofs.EndedLemmas.{faults_agree, none_wanted}

-- ---- lists

zip_at : {X Y : Type 0} (R : X → Y → Type 0) (xs : List X) (ys : List Y) → AllZip R xs ys → (k : ℕ) (d : X) (e : Y) → k < length ys → R (get_or xs k d) (get_or ys k e)
zip_at R [] [] all k d e lt = absurd (omega (arith, lt))
zip_at R [] (y ∷ ys) all k d e lt = absurd all
zip_at R (x ∷ xs) [] all k d e lt = absurd all
zip_at R (x ∷ xs) (y ∷ ys) all zero d e lt = all.0
zip_at R (x ∷ xs) (y ∷ ys) all (suc k) d e lt = zip_at R xs ys all.1 k d e (omega (arith, lt))

-- so many times a number of 16 bits
product_most : (n m : ℕ) → m < 2 ^ 16 → n * m ≤ n * 65535
product_most zero m small = omega arith
product_most (suc n) m small = let rest = product_most n m small in omega (arith, suc-mul n m, rest, small)

-- ---- what a new link tells

told_before : (told told' : Option (List Event)) (more after : List Event) → TellsNone told → told' ≡ more_told told more → told' ≡ Some after → told ≡ Some []
told_before None told' more after none is tells = absurd (none-some _ (sym is ∙ tells))
told_before (Some before) told' more after none is tells = ap Some none

nothing_told : (told : Option (List Event)) (after : List Event) → TellsNone told → told ≡ Some after → after ≡ []
nothing_told None after none is = absurd (none-some _ is)
nothing_told (Some before) after none is = sym (same_Some _ _ is) ∙ none

-- ---- one worker

all_turns : (datagrams faults : ℕ) (rounds : List Round) (lost : List Datagram) (went : List Event) (result : Result (Unit {0}) ServeFault)
    → (result ≡ Err OutOfMemory → ⊥) → HasFaults 0 faults result → Ends datagrams rounds lost went result → faults ≡ 0 → length (turns_in rounds) + length lost ≡ datagrams
all_turns datagrams faults rounds lost went (Ok done) memory counts ends none = omega (arith, ends.0, ap length ends.1)
all_turns datagrams faults rounds lost went (Err Link) memory counts ends none = absurd (let some = rose_above faults counts in omega (arith, some, none))
all_turns datagrams faults rounds lost went (Err OutOfMemory) memory counts ends none = absurd (memory refl)

module _ {g : Ghosts Held Batch (Unit {0})} where
  -- a worker over a fresh seat and a new link, which has come back as this
  pub record Came (datagrams port upstream : ℕ) (moment : Option ℕ) (before after : Seat Held Batch (Unit {0}) g) (back : Returned) (ended : End) : Type 0 where
    pub at : IsAt port upstream back
    pub faults : HasFaults 0 back.faults ended
    pub served : HasServed datagrams moment before after (Some []) (Some back.events) ended

  served_told : (datagrams : ℕ) (moment : Option ℕ) (before after : Seat Held Batch (Unit {0}) g) {told told' known known' : Option (List Event)} (ended : Result (Unit {0}) ServeFault)
      → told ≡ known → told' ≡ known' → HasServed datagrams moment before after told told' ended → HasServed datagrams moment before after known known' ended
  served_told datagrams moment before after ended a b served =
      subst (λ f. f) (λ i. HasServed datagrams moment before after (a i) (b i) ended) served

  came_one : (datagrams port upstream : ℕ) (moment : Option ℕ) (before after : Seat Held Batch (Unit {0}) g) (link link' : Sight) (back : Returned) (ended : End)
      → IsNew port upstream link → HasWorked datagrams moment before after link link' ended → returned link' ≡ Some back → Came datagrams port upstream moment before after back ended
  came_one datagrams port upstream moment before after link link' back ended new worked is =
      let show = shown link'.port link'.upstream link'.events link'.faults back is in
      let served = worked.served in
      record {
        at = record { port_is = show.port_is ∙ worked.port ∙ new.port_is; upstream_is = show.upstream_is ∙ worked.upstream ∙ new.upstream_is };
        faults = subst (λ n. HasFaults n back.faults ended) new.unfailed (subst (λ n. HasFaults link.faults n ended) (sym show.faults_are) worked.faults);
        served = served_told datagrams moment before after ended
            (told_before link.events link'.events served.went back.events new.events served.events_are show.events_are) show.events_are served;
      }

  came_many : (datagrams port upstream : ℕ) (moment : Option ℕ) (before after : Seat Held Batch (Unit {0}) g) (back : Returned) (ended : End) (came : Came datagrams port upstream moment before after back ended)
      → length (received_in back.events) ≡ length (turns_in came.served.rounds) + length came.served.lost
  came_many datagrams port upstream moment before after back ended came =
      let went : back.events ≡ came.served.went = same_Some _ _ came.served.events_are in
      ap (λ l. length (received_in l)) went ∙ many_received datagrams came.served.rounds came.served.lost came.served.went ended came.served.ends

  came_whole : (datagrams port upstream : ℕ) (moment : Option ℕ) (before after : Seat Held Batch (Unit {0}) g) (back : Returned) (ended : End) → (ended ≡ Err OutOfMemory → ⊥) → Came datagrams port upstream moment before after back ended → back.faults ≡ 0 → length (received_in back.events) ≡ datagrams
  came_whole datagrams port upstream moment before after back ended memory came none =
      came_many datagrams port upstream moment before after back ended came
      ∙ all_turns datagrams back.faults came.served.rounds came.served.lost came.served.went ended memory came.faults came.served.ends none

  -- ---- all workers

  module _ (service : Service) (journal : List Batch) (before after : List (Seat Held Batch (Unit {0}) g)) (came : List Returned) (ends : List End) (seats : length before ≡ service.workers) (seats' : length after ≡ length before) (many : length came ≡ length before) (all : length ends ≡ length before) (most : service.workers ≤ 32) (small : service.datagrams < 2 ^ 16)
      (fresh : (k : ℕ) (d : Seat Held Batch (Unit {0}) g) → k < length before → (seen_by (get_or before k d) ≡ []) × (places_by (get_or before k d) ≡ [])) (begins : All (λ seat. IsPrefix (seen_by seat) journal) after) (once : AreAllBelow (length journal) (flat_map places_by after)) where
    abbrev EachCame : Option ℕ → Type 0
    EachCame moment =
        (k : ℕ) (d d' : Seat Held Batch (Unit {0}) g) (e : Returned) (f : End) → k < length came → Came service.datagrams (service.listen + k) service.upstream moment (get_or before k d) (get_or after k d') (get_or came k e) (get_or ends k f)

    -- no worker wanted memory
    abbrev NoneWanted : Type 0
    NoneWanted = (k : ℕ) (f : End) → k < length ends → get_or ends k f ≡ Err OutOfMemory → ⊥

    -- the shift of a worker whose seat was this in the end
    abbrev IsShiftOver : Bool → Option ℕ → Returned → Seat Held Batch (Unit {0}) g → Shift → Type 0
    IsShiftOver wanting moment back seat shift = IsShift wanting service.datagrams moment journal back shift × (shift.placed ≡ places_by seat)

    shift_at : (wanting : Bool) (moment : Option ℕ) → (wanting ≡ false → NoneWanted) → EachCame moment → (k : ℕ) (e : Returned) (d' : Seat Held Batch (Unit {0}) g) → k < length came → (shift : Shift) × IsShiftOver wanting moment (get_or came k e) (get_or after k d') shift
    shift_at wanting moment none each k e d' lt =
        let inside : k < length before = omega (arith, lt, many) in
        let d = some_of before k inside in
        let f : End = Ok tt in
        let one = each k d d' e f lt in
        let new = fresh k d inside in
        let shift = shift_of wanting service.datagrams moment journal (get_or before k d) (get_or after k d') (get_or came k e) (get_or ends k f) (λ off. none off k f (omega (arith, inside, all))) new.0 new.1 (begins k d' (omega (arith, inside, seats'))) one.faults one.served in
        (record { seen = seen_by (get_or after k d'); placed = places_by (get_or after k d'); rounds = one.served.rounds }, (shift, refl))

    placed_same : (shifts : List Shift) (ends : List (Seat Held Batch (Unit {0}) g)) → AllZip (λ (shift : Shift) seat. shift.placed ≡ places_by seat) shifts ends → flat_map (λ shift. shift.placed) shifts ≡ flat_map places_by ends
    placed_same [] [] all = refl
    placed_same [] (s ∷ ends) all = absurd all
    placed_same (s ∷ shifts) [] all = absurd all
    placed_same (s ∷ shifts) (e ∷ ends) all = λ i. all.0 i ++ placed_same shifts ends all.1 i

    serve_at : (wanting : Bool) (moment : Option ℕ) → (wanting ≡ false → NoneWanted) → EachCame moment → LinksServe wanting service.datagrams moment journal came
    serve_at wanting moment none each =
        let chosen = shifts_for came after (omega (arith, seats', many)) (shift_at wanting moment none each) in
        links_serve wanting service.datagrams moment journal came chosen.0 (omega (arith, product_most (length came) service.datagrams small, many, seats, most)) chosen.1
        (subst (AreAllBelow (length journal)) (sym (placed_same chosen.0 after chosen.2)) once)
      where
        shifts_for : (backs : List Returned) (ends : List (Seat Held Batch (Unit {0}) g)) → length ends ≡ length backs
            → ((k : ℕ) (e : Returned) (d : Seat Held Batch (Unit {0}) g) → k < length backs → (shift : Shift) × IsShiftOver wanting moment (get_or backs k e) (get_or ends k d) shift)
            → (shifts : List Shift) × AllZip (IsShift wanting service.datagrams moment journal) backs shifts × AllZip (λ (shift : Shift) seat. shift.placed ≡ places_by seat) shifts ends
        shifts_for [] [] same each = ([], tt, tt)
        shifts_for [] (s ∷ ends) same each = absurd (omega (arith, same))
        shifts_for (b ∷ backs) [] same each = absurd (omega (arith, same))
        shifts_for (b ∷ backs) (s ∷ ends) same each =
            let first = each 0 b s (omega arith) in
            let rest = shifts_for backs ends (omega (arith, same)) (λ k e d lt. each (suc k) e d (omega (arith, lt))) in
            (first.0 ∷ rest.0, (first.1.0, rest.1), (first.1.1, rest.2))

    each_at : (moment : Option ℕ) → EachCame moment → AreAt service came
    each_at moment each = λ k e lt.
        let inside : k < length before = omega (arith, lt, many) in
        (each k (some_of before k inside) (some_of after k (omega (arith, inside, seats'))) e (Ok tt) lt).at

    pub all_served : (moment : Option ℕ) → NoneWanted → EachCame moment → AllServed service moment came
    all_served moment none each = record {
      all = many ∙ seats;
      at = each_at moment each;
      whole = λ k e lt unfailed.
          let inside : k < length before = omega (arith, lt, many) in
          let d = some_of before k inside in
          let f : End = Ok tt in
          came_whole service.datagrams (service.listen + k) service.upstream moment (get_or before k d) (get_or after k d) (get_or came k e) (get_or ends k f) (none k f (omega (arith, inside, all))) (each k d d e f lt) unfailed;
      serve = (journal, serve_at false moment (λ _. none) each);
    }

    pub served_in_want : (moment : Option ℕ) → EachCame moment → ServedInWant service moment came
    served_in_want moment each = record {
      all = many ∙ seats;
      at = each_at moment each;
      serve = (journal, serve_at true moment (λ on. absurd (false≢true (sym on))) each);
    }

  -- what the workers did over the seats of a new cache and new links, once the cache is closed with this journal
  pub have_served : (service : Service) (cache : SharedCache) (journal : List Batch) (moment : Option ℕ) (before after : List (Seat Held Batch (Unit {0}) g)) (links links' : List Sight) (ended : End)
      → service.workers ≤ 32 → service.datagrams < 2 ^ 16 → length before ≡ service.workers → length links ≡ service.workers → AreNew service.listen service.upstream links
      → ((k : ℕ) (d : Seat Held Batch (Unit {0}) g) → k < length before → (seen_by (get_or before k d) ≡ []) × (places_by (get_or before k d) ≡ []))
      → All (λ seat. IsPrefix (seen_by seat) journal) after → AreAllBelow (length journal) (flat_map places_by after)
      → HaveEnded cache service.datagrams moment before after links links' ended → HaveServed service moment links' ended
  have_served service cache journal moment before after links links' ended most small seats many new fresh begins once have = by_end ended have.worst
    where
      long : (came : List Returned) → AreBack links' came → length came ≡ length links
      long came back = AllZip-long (λ (l : Sight) (b : Returned). returned l ≡ Some b) links' came back ∙ have.all

      each_came : (came : List Returned) → AreBack links' came → (k : ℕ) (d d' : Seat Held Batch (Unit {0}) g) (e : Returned) (f : End) → k < length came → Came service.datagrams (service.listen + k) service.upstream moment (get_or before k d) (get_or after k d') (get_or came k e) (get_or have.ends k f)
      each_came came back k d d' e f lt =
          let inside : k < length links = omega (arith, lt, long came back) in
          let l = some_of links k inside in
          came_one service.datagrams (service.listen + k) service.upstream moment (get_or before k d) (get_or after k d') (get_or links k l) (get_or links' k l) (get_or came k e) (get_or have.ends k f)
          (new k l inside) (have.each k d d' l l f inside) (zip_at (λ (l : Sight) (b : Returned). returned l ≡ Some b) links' came back k l e lt)

      agree : (1 ≤ count_by has_failed have.ends → 1 ≤ faults_of links') × (count_by has_failed have.ends ≡ 0 → faults_of links' ≡ 0)
      agree = faults_agree links' have.ends (have.many ∙ sym have.all) (λ k e f lt.
          let inside : k < length links = omega (arith, lt, have.all) in
          let l = some_of links k inside in
          let d = some_of before k (omega (arith, inside, many, seats)) in
          subst (λ n. HasFaults n (get_or links' k e).faults (get_or have.ends k f)) (new k l inside).unfailed (have.each k d d l e f inside).faults)

      served : count_by has_wanted have.ends ≡ 0 → (came : List Returned) → AreBack links' came → AllServed service moment came
      served none came back =
          all_served service journal before after came have.ends seats have.seats (omega (arith, long came back, many, seats)) (omega (arith, have.many, many, seats)) most small fresh begins once moment
          (none_wanted have.ends none) (each_came came back)

      wanting : (came : List Returned) → AreBack links' came → ServedInWant service moment came
      wanting came back =
          served_in_want service journal before after came have.ends seats have.seats (omega (arith, long came back, many, seats)) (omega (arith, have.many, many, seats)) most small fresh begins once moment (each_came came back)

      by_end : (end : End) → IsWorst end have.ends → HaveServed service moment links' end
      by_end (Ok done) worst = (agree.1 worst.0, served worst.1)
      by_end (Err Link) worst = (agree.0 worst.0, served worst.1)
      by_end (Err OutOfMemory) worst = λ came back. inl (wanting came back)

-- ---- links that served nothing

unused_one : (port upstream : ℕ) (link : Sight) (back : Returned) → IsNew port upstream link → returned link ≡ Some back → IsAt port upstream back × IsUnused back
unused_one port upstream link back new is =
    let show = shown link.port link.upstream link.events link.faults back is in
    let went = nothing_told link.events back.events new.events show.events_are in
    let none = show.faults_are ∙ new.unfailed in (
      record { port_is = show.port_is ∙ new.port_is; upstream_is = show.upstream_is ∙ new.upstream_is },
      λ i. record { port = back.port; upstream = back.upstream; events = went i; faults = none i },
    )

each_unused : (listen upstream : ℕ) (links : List Sight) (came : List Returned) → AreNew listen upstream links → AreBack links came
    → (k : ℕ) (e : Returned) → k < length came → IsAt (listen + k) upstream (get_or came k e) × IsUnused (get_or came k e)
each_unused listen upstream links came new back k e lt =
    let long : length came ≡ length links = AllZip-long (λ (l : Sight) (b : Returned). returned l ≡ Some b) links came back in
    let inside : k < length links = omega (arith, lt, long) in
    let l = some_of links k inside in
    unused_one (listen + k) upstream (get_or links k l) (get_or came k e) (new k l inside) (zip_at (λ (l : Sight) (b : Returned). returned l ≡ Some b) links came back k l e lt)

pub one_unbound : (service : Service) (links : List Sight) (came : List Returned) → length links < service.workers → AreNew service.listen service.upstream links → AreBack links came → OneUnbound service came
one_unbound service links came few new back =
    let long : length came ≡ length links = AllZip-long (λ (l : Sight) (b : Returned). returned l ≡ Some b) links came back in
    let one = each_unused service.listen service.upstream links came new back in
    record { some = omega (arith, few, long); at = λ k e lt. (one k e lt).0; idle = λ k e lt. (one k e lt).1 }

none_served : (service : Service) (links : List Sight) (came : List Returned) → length links ≡ service.workers → AreNew service.listen service.upstream links → AreBack links came → NoneServed service came
none_served service links came all new back =
    let long : length came ≡ length links = AllZip-long (λ (l : Sight) (b : Returned). returned l ≡ Some b) links came back in
    let one = each_unused service.listen service.upstream links came new back in
    record { all = long ∙ all; at = λ k e lt. (one k e lt).0; idle = λ k e lt. (one k e lt).1 }

pub never_served : (service : Service) (moment : Option ℕ) (links links' : List Sight) (ended : End) → length links ≡ service.workers → AreNew service.listen service.upstream links → links' ≡ links → ended ≡ Err OutOfMemory → HaveServed service moment links' ended
never_served service moment links links' ended all new same wanted =
    let l = sym same in
    let e = sym wanted in
    subst (λ t. t) (λ i. HaveServed service moment (l i) (e i)) (λ came back. inr (none_served service links came all new back))

-- ---- all links that served

none_failed : (service : Service) (moment : Option ℕ) (links : List Sight) (came : List Returned) → HaveServed service moment links (Ok tt) → AreBack links came → AllServedWhole service moment came
none_failed service moment links came served back = record {
  served = served.1 came back;
  unfailed = all_unfailed came (faults_back links came back ∙ served.0);
}

one_failed : (service : Service) (moment : Option ℕ) (links : List Sight) (came : List Returned) → HaveServed service moment links (Err Link) → AreBack links came → OneFailed service moment came
one_failed service moment links came served back = record {
  served = served.1 came back;
  failed = omega (arith, served.0, faults_back links came back);
}

-- ---- how the service ends

pub is_on : (P Q : Type 0) (b : Bool) → b ≡ true → MatchBool b P Q → P
is_on P Q b on holds = subst (λ x. MatchBool x P Q) on holds

pub is_off : (P Q : Type 0) (b : Bool) → b ≡ false → MatchBool b P Q → Q
is_off P Q b off holds = subst (λ x. MatchBool x P Q) off holds

module _ {H : Type 0} (service : Service) (moment : Option ℕ) (harbor harbor' : H) (told mid told' : Option (List Returned)) (a b c : ℕ) (links : List Sight) (untold : mid ≡ told) (came : CameBack mid told' (AreBack links)) (counted : IsCounted (faults_of links) b c) where
  came_told : CameBack told told' (AreBack links)
  came_told = subst (λ t. CameBack t told' (AreBack links)) untold came

  pub unbound_early : Rose a b → length links < service.workers → AreNew service.listen service.upstream links → EndsEarly service moment harbor harbor' told told' a c Harbor
  unbound_early rose few new = (
    rose_counted (faults_of links) a b c rose counted,
    came_weaker (AreBack links) (λ l. OneFailed service moment l ⊎ OneUnbound service l) told told' came_told (λ l back. inr (one_unbound service links l few new back)),
  )

  failed_rose : (n : ℕ) → 1 ≤ n → b ≡ a → IsCounted n b c → Rose a c
  failed_rose n some same (inl none) = absurd (omega (arith, some, none.0))
  failed_rose n some same (inr rose) = subst (λ x. Rose x c) same rose.1

  pub failed_early : (ended : End) → ended ≡ Err Link → b ≡ a → HaveServed service moment links ended → EndsEarly service moment harbor harbor' told told' a c Harbor
  failed_early ended is same given =
      let served : HaveServed service moment links (Err Link) = subst (λ e. HaveServed service moment links e) is given in (
        failed_rose (faults_of links) served.0 same counted,
        came_weaker (AreBack links) (λ l. OneFailed service moment l ⊎ OneUnbound service l) told told' came_told (λ l back. inl (one_failed service moment links l served back)),
      )

  pub wanted_early : (ended : End) → ended ≡ Err OutOfMemory → HaveServed service moment links ended → EndsEarly service moment harbor harbor' told told' a c errors.OutOfMemory
  wanted_early ended is given =
      let served : HaveServed service moment links (Err OutOfMemory) = subst (λ e. HaveServed service moment links e) is given in
      inr (came_weaker (AreBack links) (λ l. ServedInWant service moment l ⊎ NoneServed service l) told told' came_told served)

  pub all_whole : (ended : End) → ended ≡ Ok tt → HaveServed service moment links ended → CameBack told told' (AllServedWhole service moment)
  all_whole ended is given =
      let served : HaveServed service moment links (Ok tt) = subst (λ e. HaveServed service moment links e) is given in
      came_weaker (AreBack links) (AllServedWhole service moment) told told' came_told (λ l back. none_failed service moment links l served back)
