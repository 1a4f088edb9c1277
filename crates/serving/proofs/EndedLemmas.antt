-- What all workers leave, put together.
use Rattle.std.proofs.Common.{◌≡◌, ℕ, zero, suc, ◌+◌, ◌<◌, ◌≤◌, Bool, cond, List, [], ◌∷◌, ◌++◌, length, map, get_or, refl, sym, ◌∙◌, ap, subst, arith, length-append}
use Rattle.std.specs.Prelude.{Option, Ok, Err}
use Rattle.std.specs.List.{All, count_by}
use Rattle.std.proofs.lemmas.List.{length-map, map-append, get_or-map}
use Rattle.std.proofs.lemmas.List.Sums.{sum_by-append, sum_by-cons}
use Rattle.facts.proofs.Lists.{some_of}
use Rattle.denial_records.specs.declared.batch.Batch.{Batch}
use Rattle.cache_meaning.specs.Held.{Held}
use Rattle.cache_versions.specs.declared.state.State.{Ghosts}
use Rattle.cache_versions.specs.declared.seat.Seat.{Seat}
use Rattle.resolver.specs.Caches.{IsSeatOf}
use Rattle.resolver.specs.declared.shared_cache.SharedCache.{SharedCache}
use Rattle.serving.specs.Worker.{HasFaults}
use Rattle.serving.specs.declared.serve_fault.ServeFault.TheVariants.{Link, OutOfMemory}
use Rattle.serving.proofs.LinkLemmas.{rose_above}
use Rattle.serving.specs.Sight.{Sight, faults_of}
use Rattle.serving.specs.Workers.{End, HasWorkedOver, HasWorked, HaveEnded, IsWorst, IsWorstOf, has_failed, has_wanted, worse}

-- ---- lists

-- what holds of each of a list holds of each that it was made of
pub all_of_map : {X Y : Type 0} (P : Y → Type 0) (f : X → Y) (xs : List X) (ys : List Y) → map f xs ≡ ys → All P ys → (k : ℕ) (d : X) → k < length xs → P (f (get_or xs k d))
all_of_map P f xs ys are all k d lt =
    let long : length xs ≡ length ys = sym (length-map xs f) ∙ ap length are in
    subst P (sym (ap (λ l. get_or l k (f d)) are) ∙ get_or-map f xs k d (f d) lt) (all k (f d) (omega (arith, lt, long)))

-- there is room for one more, where there is room for what was made of all
pub room_left : {X Y : Type 0} (f : X → Y) (taken rest all later : List X) (x : X) (made : List Y) (len capacity room : ℕ)
    → len ≡ length made → made ≡ map f taken → taken ++ rest ≡ all → rest ≡ x ∷ later → length all ≤ room → capacity ≡ room → len < capacity
room_left f taken rest all later x made len capacity room many made_is all_is rest_is fits same =
    omega (arith, many, ap length made_is, length-map taken f, ap length all_is, length-append taken rest, ap length rest_is, fits, same)

-- there is room for as many, where there is room for what was made of them
pub room_for_all : {X Y : Type 0} (f : X → Y) (xs xs' : List X) (ys : List Y) (room : ℕ) → map f xs ≡ ys → length xs' ≡ length xs → length ys ≤ room → length xs' ≤ room
room_for_all f xs xs' ys room are many fits = omega (arith, ap length are, length-map xs f, many, fits)

-- ---- the worst of how work ended

pub none_worst : IsWorst (Ok tt) []
none_worst = (refl, refl)

worst_by : (ended one : End) (failed wanted : ℕ) → IsWorstOf ended failed wanted → IsWorstOf (worse ended one) (failed + cond (has_failed one) 1 0) (wanted + cond (has_wanted one) 1 0)
worst_by (Ok done) (Ok other) failed wanted is = (omega (arith, is.0), omega (arith, is.1))
worst_by (Ok done) (Err Link) failed wanted is = (omega arith, omega (arith, is.1))
worst_by (Ok done) (Err OutOfMemory) failed wanted is = omega arith
worst_by (Err Link) (Ok other) failed wanted is = (omega (arith, is.0), omega (arith, is.1))
worst_by (Err Link) (Err Link) failed wanted is = (omega arith, omega (arith, is.1))
worst_by (Err Link) (Err OutOfMemory) failed wanted is = omega arith
worst_by (Err OutOfMemory) one failed wanted is = omega (arith, is)

count_more : {P : Type 0} (holds : P → Bool) (xs : List P) (x : P) → count_by holds (xs ++ x ∷ []) ≡ count_by holds xs + cond (holds x) 1 0
count_more holds xs x =
    let split = sum_by-append (λ p. cond (holds p) 1 0) xs (x ∷ []) in
    let last = sum_by-cons (λ p. cond (holds p) 1 0) x [] in
    omega (arith, split, last)

one_more_worst : (ended one : End) (each : List End) → IsWorst ended each → IsWorst (worse ended one) (each ++ one ∷ [])
one_more_worst ended one each is =
    let failed = sym (count_more has_failed each one) in
    let wanted = sym (count_more has_wanted each one) in
    subst (λ t. t) (λ i. IsWorstOf (worse ended one) (failed i) (wanted i)) (worst_by ended one (count_by has_failed each) (count_by has_wanted each) is)

pub more_ended : {X : Type 0} (end_of : X → End) (xs : List X) (x : X) (ended now : End) → IsWorst ended (map end_of xs) → now ≡ worse ended (end_of x) → IsWorst now (map end_of (xs ++ x ∷ []))
more_ended end_of xs x ended now is same =
    let all = sym (map-append end_of xs (x ∷ [])) in
    let last = sym same in
    subst (λ t. t) (λ i. IsWorst (last i) (all i)) (one_more_worst ended (end_of x) (map end_of xs) is)

pub none_wanted : (each : List End) → count_by has_wanted each ≡ 0 → (k : ℕ) (f : End) → k < length each → get_or each k f ≡ Err OutOfMemory → ⊥
none_wanted [] none k f lt is = absurd (omega (arith, lt))
none_wanted (x ∷ xs) none zero f lt is =
    let sum = sum_by-cons (λ e. cond (has_wanted e) 1 0) x xs in
    let one : cond {A = ℕ} (has_wanted x) 1 0 ≡ 1 = ap (λ e. cond {A = ℕ} (has_wanted e) 1 0) is in
    absurd (omega (arith, none, sum, one))
none_wanted (x ∷ xs) none (suc k) f lt is =
    let sum = sum_by-cons (λ e. cond (has_wanted e) 1 0) x xs in
    none_wanted xs (omega (arith, none, sum)) k f (omega (arith, lt)) is

abbrev Agree : ℕ → ℕ → Type 0
Agree count faults = (1 ≤ count → 1 ≤ faults) × (count ≡ 0 → faults ≡ 0)

agree_same : (faults count sum : ℕ) → faults ≡ 0 → Agree count sum → Agree (0 + count) (faults + sum)
agree_same faults count sum none agree = (
  λ some. (let more = agree.0 (omega (arith, some)) in omega (arith, more)),
  λ no. (let same = agree.1 (omega (arith, no)) in omega (arith, same, none)),
)

agree_one : (f : End) (faults count sum : ℕ) → HasFaults 0 faults f → Agree count sum → Agree (cond (has_failed f) 1 0 + count) (faults + sum)
agree_one (Ok done) faults count sum is agree = agree_same faults count sum is agree
agree_one (Err Link) faults count sum is agree =
    let more = rose_above faults is in
    (λ some. omega (arith, more), λ none. absurd (omega (arith, none)))
agree_one (Err OutOfMemory) faults count sum is agree = agree_same faults count sum is agree

-- links have failed where work ended by that
pub faults_agree : (links : List Sight) (each : List End) → length each ≡ length links → ((k : ℕ) (e : Sight) (f : End) → k < length links → HasFaults 0 (get_or links k e).faults (get_or each k f))
    → (1 ≤ count_by has_failed each → 1 ≤ faults_of links) × (count_by has_failed each ≡ 0 → faults_of links ≡ 0)
faults_agree [] [] many have = (λ some. absurd (omega (arith, some)), λ none. refl)
faults_agree [] (f ∷ each) many have = absurd (omega (arith, many))
faults_agree (l ∷ links) [] many have = absurd (omega (arith, many))
faults_agree (l ∷ links) (f ∷ each) many have =
    let count = sum_by-cons (λ e. cond (has_failed e) 1 0) f each in
    let sum = sum_by-cons (λ (x : Sight). x.faults) l links in
    let rest = faults_agree links each (omega (arith, many)) (λ k e g lt. have (suc k) e g (omega (arith, lt))) in
    let both = agree_one f l.faults (count_by has_failed each) (faults_of links) (have 0 l f (omega arith)) rest in
    (λ some. (let more = both.0 (omega (arith, some, count)) in omega (arith, more, sum)), λ none. (let same = both.1 (omega (arith, none, count)) in omega (arith, same, sum)))

-- ---- all workers

module _ {g : Ghosts Held Batch (Unit {0})} where
  worked_same : (datagrams : ℕ) (moment : Option ℕ) {s t s' t' : Seat Held Batch (Unit {0}) g} {l m l' m' : Sight} {a b : End} → s ≡ t → s' ≡ t' → l ≡ m → l' ≡ m' → a ≡ b → HasWorked datagrams moment s s' l l' a → HasWorked datagrams moment t t' m m' b
  worked_same datagrams moment same same' link link' ended worked =
      subst (λ f. f) (λ i. HasWorked datagrams moment (same i) (same' i) (link i) (link' i) (ended i)) worked

module _ {g : Ghosts Held Batch (Unit {0})} {J : Type 0} (seat_of : J → Seat Held Batch (Unit {0}) g) (link_of : J → Sight) (end_of : J → End) where
  abbrev EachWorkedOver : SharedCache → ℕ → Option ℕ → List J → List J → Type 0
  EachWorkedOver cache datagrams moment jobs jobs' =
      (k : ℕ) (d : J) → k < length jobs
      → HasWorkedOver cache datagrams moment (seat_of (get_or jobs k d)) (seat_of (get_or jobs' k d)) (link_of (get_or jobs k d)) (link_of (get_or jobs' k d)) (end_of (get_or jobs' k d))

  ended_maps : (cache : SharedCache) (datagrams : ℕ) (moment : Option ℕ) (jobs jobs' : List J) (ended : End) → length jobs' ≡ length jobs → EachWorkedOver cache datagrams moment jobs jobs' → IsWorst ended (map end_of jobs')
      → HaveEnded cache datagrams moment (map seat_of jobs) (map seat_of jobs') (map link_of jobs) (map link_of jobs') ended
  ended_maps cache datagrams moment jobs jobs' ended many each worst = record {
    seats = length-map jobs' seat_of ∙ many ∙ sym (length-map jobs seat_of);
    all = length-map jobs' link_of ∙ many ∙ sym (length-map jobs link_of);
    object = λ k d lt.
        let inside' : k < length jobs' = omega (arith, lt, length-map jobs' seat_of) in
        let w = some_of jobs' k inside' in
        subst (IsSeatOf cache) (sym (get_or-map seat_of jobs' k w d inside')) (each k w (omega (arith, inside', many))).object;
    ends = map end_of jobs';
    many = length-map jobs' end_of ∙ many ∙ sym (length-map jobs link_of);
    each = λ k d d' e e' f lt.
        let inside : k < length jobs = omega (arith, lt, length-map jobs link_of) in
        let inside' : k < length jobs' = omega (arith, inside, many) in
        let w = some_of jobs k inside in
        worked_same datagrams moment (sym (get_or-map seat_of jobs k w d inside)) (sym (get_or-map seat_of jobs' k w d' inside')) (sym (get_or-map link_of jobs k w e inside)) (sym (get_or-map link_of jobs' k w e' inside')) (sym (get_or-map end_of jobs' k w f inside'))
        (each k w inside).worked;
    worst = worst;
  }

  pub all_ended : (cache : SharedCache) (datagrams : ℕ) (moment : Option ℕ) (jobs jobs' : List J) (before after : List (Seat Held Batch (Unit {0}) g)) (links links' : List Sight) (ended : End)
      → map seat_of jobs ≡ before → map link_of jobs ≡ links → length jobs' ≡ length jobs → EachWorkedOver cache datagrams moment jobs jobs'
      → after ≡ map seat_of jobs' → links' ≡ map link_of jobs' → IsWorst ended (map end_of jobs') → HaveEnded cache datagrams moment before after links links' ended
  all_ended cache datagrams moment jobs jobs' before after links links' ended seats links_are many each seats' links_are' worst =
      let s = sym seats' in
      let l = sym links_are' in
      subst (λ t. t) (λ i. HaveEnded cache datagrams moment (seats i) (s i) (links_are i) (l i) ended) (ended_maps cache datagrams moment jobs jobs' ended many each worst)
