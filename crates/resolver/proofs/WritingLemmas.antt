-- The records of a walk, link by link.
use Rattle.std.proofs.Common.{◌≡◌, ℕ, ◌+◌, ◌<◌, ◌≤◌, Bool, true, false, List, [], ◌∷◌, ◌++◌, take, drop, length, get_or, Option, Some, refl, sym, ◌∙◌, ap, subst, cond, append-nil, append_assoc}
use Rattle.std.specs.Prelude.{not, ◌||◌, filter}
use Rattle.std.specs.List.{flat_map, list_any}
use Rattle.std.proofs.lemmas.List.{take_more, take_all, drop_more, take-append-drop}
use Rattle.std.proofs.lemmas.List.Folds.{list_any-append}
use Rattle.std.proofs.Math.ListN.{drop_of_length-le}
use Rattle.std.proofs.lemmas.Grind.{flat_map-append}
use Rattle.std.proofs.lemmas.List.Elements.{filter-append}
use Rattle.dnswire.specs.declared.question.Question.{Question}
use Rattle.denial_records.specs.Proof.{denied_by}
use Rattle.denial_records.specs.declared.verdict.Denial.{Denial}
use Rattle.denial_records.specs.declared.record.Record.{Record}
use Rattle.denial_records.specs.declared.record.Record.TheVariants.{Set}
use Rattle.denial_records.specs.declared.set_rec.SetRec.{SetRec}
use Rattle.dname.specs.Name.{Label}
use Rattle.reply_core.specs.Kept.{listed}
use Rattle.reply_core.specs.Reply.{ReplyRecord, wants_dnssec, set_records, proof_records}
use Rattle.reply_core.specs.Sections.{Written, HasWrittenWithin}
use Rattle.reply_core.specs.Shown.{denial_in}
use Rattle.resolver.specs.Walk.{End}
use Rattle.resolver.specs.WalkReply.{same_set, dname_records, way_dnames, way_records, end_records, answers_after, same_denial, are_new, way_denials, end_denials, denials_after}
use Rattle.resolver.specs.Lent.{next_by, led_by, way_by, links_by, dnames_in, dnames_by, denials_in, denials_by}
use Rattle.resolver.specs.declared.walk.Way.{Way as LentWay}
use Rattle.resolver.specs.declared.walk.Way.TheVariants as ways
use Rattle.resolver.proofs.WalkLemmas.{led_more}

-- ---- one link more of those so far

module _ (links : List LentWay) (place : ℕ) (way : LentWay) (inside : place < length links) (at : way ≡ get_or links place way) where
  rest_is : drop place links ≡ way ∷ drop (place + 1) links
  rest_is = drop_more links place way inside ∙ ap (λ it. it ∷ drop (place + 1) links) (sym at)

  so_far : take (place + 1) links ≡ take place links ++ way ∷ []
  so_far = take_more links place way inside ∙ ap (λ it. take place links ++ it ∷ []) (sym at)

  pub led_so_far : (name : List Label) → led_by name (take (place + 1) links) ≡ next_by (led_by name (take place links)) way
  led_so_far name = ap (led_by name) so_far ∙ led_more name (take place links) way

  more_by : {A : Type 0} (f : LentWay → List A) → flat_map f (take (place + 1) links) ≡ flat_map f (take place links) ++ f way
  more_by f = ap (flat_map f) so_far ∙ flat_map-append f (take place links) (way ∷ []) ∙ ap (λ it. flat_map f (take place links) ++ it) (append-nil (f way))

  -- what one of them has all have
  pub some_by : {A : Type 0} (f : LentWay → List A) (test : A → Bool) → list_any test (f way) ≡ true → list_any test (flat_map f links) ≡ true
  some_by f test has =
      let split : take place links ++ way ∷ drop (place + 1) links ≡ links =
      ap (λ rest. take place links ++ rest) (sym rest_is) ∙ take-append-drop place links in
      let rest = flat_map f (drop (place + 1) links) in
      ap (λ them. list_any test (flat_map f them)) (sym split)
      ∙ ap (list_any test) (flat_map-append f (take place links) (way ∷ drop (place + 1) links))
      ∙ list_any-append test (flat_map f (take place links)) (f way ++ rest)
      ∙ ap (λ t. list_any test (flat_map f (take place links)) || t) (list_any-append test (f way) rest ∙ ap (λ t. t || list_any test rest) has)
      ∙ or_true (list_any test (flat_map f (take place links)))
    where
      or_true : (b : Bool) → (b || true) ≡ true
      or_true true = refl
      or_true false = refl

-- ---- what a link goes by

dnames_of : (way : LentWay) (next : List Label) → way_dnames (way_by way next) ≡ dnames_in way
dnames_of (ways.Alias verdict) next = refl
dnames_of (ways.Dname set) next = refl

pub denials_of : (way : LentWay) (next : List Label) → way_denials (way_by way next) ≡ denials_in way
denials_of (ways.Alias verdict) next = refl
denials_of (ways.Dname set) next = refl

-- ---- answers

module _ (name : List Label) (links : List LentWay) (last : List Label) (end : End) where
  -- the records of the links so far are written, and those of the rest make the whole
  pub record HasAnswered (limit : ℕ) (question : Question) (rcode ttl : ℕ) (place : ℕ) (here : Written) : Type 0 where
    pub done : List ReplyRecord
    pub written : HasWrittenWithin limit question rcode ttl done [] here
    pub rest :
        done ++ answers_after (wants_dnssec question) (dnames_by (take place links)) (links_by (led_by name (take place links)) (drop place links)) last end
        ≡ answers_after (wants_dnssec question) [] (links_by name links) last end

  pub answered_none : (limit : ℕ) (question : Question) (rcode ttl : ℕ) (here : Written) → HasWrittenWithin limit question rcode ttl [] [] here → HasAnswered limit question rcode ttl 0 here
  answered_none limit question rcode ttl here was = record { done = []; written = was; rest = refl }

  pub answered_more : (limit : ℕ) (question : Question) (rcode ttl : ℕ) (place : ℕ) (way : LentWay) (owner : List Label) (here there : Written) → place < length links → way ≡ get_or links place way → owner ≡ led_by name (take place links)
      → HasAnswered limit question rcode ttl place here
      → ((answers : List ReplyRecord) → HasWrittenWithin limit question rcode ttl answers [] here → HasWrittenWithin limit question rcode ttl (answers ++ way_records (wants_dnssec question) (dnames_by (take place links)) owner (way_by way (next_by owner way))) [] there)
      → HasAnswered limit question rcode ttl (place + 1) there
  answered_more limit question rcode ttl place way owner here there inside at is was puts =
      let dnssec = wants_dnssec question in
      let earlier = dnames_by (take place links) in
      let from = led_by name (take place links) in
      let new = way_records dnssec earlier owner (way_by way (next_by owner way)) in
      let step : answers_after dnssec earlier (links_by from (drop place links)) last end
      ≡ way_records dnssec earlier from (way_by way (next_by from way)) ++ answers_after dnssec (earlier ++ way_dnames (way_by way (next_by from way))) (links_by (next_by from way) (drop (place + 1) links)) last end =
      ap (λ them. answers_after dnssec earlier (links_by from them) last end) (rest_is links place way inside at) in
      let dnames : dnames_by (take (place + 1) links) ≡ earlier ++ way_dnames (way_by way (next_by from way)) =
      more_by links place way inside at dnames_in ∙ ap (λ them. earlier ++ them) (sym (dnames_of way (next_by from way))) in
      record {
        done = was.done ++ new;
        written = puts was.done was.written;
        rest =
            append_assoc was.done new _
            ∙ (λ i. was.done ++ (way_records dnssec earlier (is i) (way_by way (next_by (is i) way)) ++ answers_after dnssec (dnames i) (links_by (led_so_far links place way inside at name i) (drop (place + 1) links)) last end))
            ∙ ap (λ them. was.done ++ them) (sym step)
            ∙ was.rest;
      }

  pub answered_all : (limit : ℕ) (question : Question) (rcode ttl : ℕ) (place : ℕ) (here there : Written) → length links ≤ place
      → HasAnswered limit question rcode ttl place here
      → ((answers : List ReplyRecord) → HasWrittenWithin limit question rcode ttl answers [] here → HasWrittenWithin limit question rcode ttl (answers ++ end_records (wants_dnssec question) (dnames_by links) last end) [] there)
      → HasWrittenWithin limit question rcode ttl (answers_after (wants_dnssec question) [] (links_by name links) last end) [] there
  answered_all limit question rcode ttl place here there all_done was puts =
      let all : take place links ≡ links = take_all place links all_done in
      let none : drop place links ≡ [] = drop_of_length-le links all_done in
      subst (λ them. HasWrittenWithin limit question rcode ttl them [] there)
      ((λ i. was.done ++ answers_after (wants_dnssec question) (dnames_by (sym all i)) (links_by (led_by name (take place links)) (sym none i)) last end) ∙ was.rest)
      (puts was.done was.written)

-- ---- denials

-- some denials more
pub record Puts (denials : List Record) (before after : Written) : Type 0 where
  pub writes :
      (limit : ℕ) (question : Question) (rcode ttl : ℕ) (answers authorities : List ReplyRecord) → HasWrittenWithin limit question rcode ttl answers authorities before
      → HasWrittenWithin limit question rcode ttl answers (authorities ++ flat_map (proof_records (wants_dnssec question)) denials) after

-- of a list of denials two parts are written one after the other
pub puts_both : (first second : List Record) (before between after : Written) → Puts first before between → Puts second between after → Puts (first ++ second) before after
puts_both first second before between after one two = record {
  writes = λ limit question rcode ttl answers authorities was.
      let f = proof_records (wants_dnssec question) in
      subst (λ all. HasWrittenWithin limit question rcode ttl answers all after)
      (append_assoc authorities (flat_map f first) (flat_map f second) ∙ ap (λ more. authorities ++ more) (sym (flat_map-append f first second)))
      (two.writes limit question rcode ttl answers (authorities ++ flat_map f first) (one.writes limit question rcode ttl answers authorities was));
}

pub puts_none : (written : Written) → Puts [] written written
puts_none written = record {
  writes = λ limit question rcode ttl answers authorities was. subst (λ all. HasWrittenWithin limit question rcode ttl answers all written) (sym (append-nil authorities)) was;
}

pub puts_same : (first second : List Record) (before after : Written) → first ≡ second → Puts first before after → Puts second before after
puts_same first second before after same puts = subst (λ denials. Puts denials before after) same puts

-- those of the links and the end, by what is lent
abbrev pub denials_left : List Record → List LentWay → End → List Record
denials_left earlier [] end = are_new earlier (end_denials end)
denials_left earlier (way ∷ links) end = are_new earlier (denials_in way) ++ denials_left (earlier ++ denials_in way) links end

pub left_is : (earlier : List Record) (name : List Label) (links : List LentWay) (end : End) → denials_left earlier links end ≡ denials_after earlier (links_by name links) end
left_is earlier name [] end = refl
left_is earlier name (way ∷ links) end =
    let same = denials_of way (next_by name way) in
    ap (λ them. are_new earlier (denials_in way) ++ them) (left_is (earlier ++ denials_in way) (next_by name way) links end)
    ∙ (λ i. are_new earlier (sym same i) ++ denials_after (earlier ++ sym same i) (links_by (next_by name way) links) end)

-- the denials of the links so far are written, and those of the rest make the whole
pub record PutsDenials (links : List LentWay) (end : End) (start : Written) (place : ℕ) (here : Written) : Type 0 where
  pub done : List Record
  pub puts : Puts done start here
  pub rest : done ++ denials_left (denials_by (take place links)) (drop place links) end ≡ denials_left [] links end

pub puts_denials_first : (links : List LentWay) (end : End) (start : Written) → PutsDenials links end start 0 start
puts_denials_first links end start = record { done = []; puts = puts_none start; rest = refl }

pub puts_denials_next : (links : List LentWay) (end : End) (start here there : Written) (place : ℕ) (way : LentWay) → place < length links → way ≡ get_or links place way
    → PutsDenials links end start place here → Puts (are_new (denials_by (take place links)) (denials_in way)) here there → PutsDenials links end start (place + 1) there
puts_denials_next links end start here there place way inside at was puts =
    let earlier = denials_by (take place links) in
    let new = are_new earlier (denials_in way) in
    record {
      done = was.done ++ new;
      puts = puts_both was.done new start here there was.puts puts;
      rest =
          append_assoc was.done new _
          ∙ ap (λ it. was.done ++ (new ++ denials_left it (drop (place + 1) links) end)) (more_by links place way inside at denials_in)
          ∙ ap (λ it. was.done ++ denials_left earlier it end) (sym (rest_is links place way inside at))
          ∙ was.rest;
    }

pub puts_denials_last : (links : List LentWay) (end : End) (start here there : Written) (place : ℕ) → length links ≤ place → PutsDenials links end start place here
    → Puts (are_new (denials_by links) (end_denials end)) here there → Puts (denials_left [] links end) start there
puts_denials_last links end start here there place all_done was puts =
    let all : take place links ≡ links = take_all place links all_done in
    let none : drop place links ≡ [] = drop_of_length-le links all_done in
    let same : was.done ++ are_new (denials_by links) (end_denials end) ≡ denials_left [] links end =
    (λ i. was.done ++ denials_left (denials_by (sym all i)) (sym none i) end) ∙ was.rest in
    puts_same _ _ start there same (puts_both was.done (are_new (denials_by links) (end_denials end)) start here there was.puts puts)

-- ---- those of one verdict

pub new_in_turn : (earlier first second third : List Record) → are_new earlier first ++ are_new earlier second ++ are_new earlier third ≡ are_new earlier (first ++ second ++ third)
new_in_turn earlier first second third =
    let p : Record → Bool = λ denial. not (list_any (λ each. same_denial each denial) earlier) in
    ap (λ front. front ++ filter p third) (sym (filter-append p first second)) ∙ sym (filter-append p (first ++ second) third)

new_one : (earlier : List Record) (denial : Record) (there : Bool) → list_any (λ each. same_denial each denial) earlier ≡ there → are_new earlier (denial ∷ []) ≡ cond (not there) (denial ∷ []) []
new_one earlier denial there is = ap (λ b. cond (not b) (denial ∷ []) []) is

pub new_place : (earlier : List Record) (place : Option Denial) (denial : Denial) (there : Bool) → place ≡ Some denial
    → there ≡ list_any (λ each. same_denial each (denied_by denial)) earlier → there ≡ false → are_new earlier (denial_in place) ≡ denial_in place
new_place earlier place denial there is told none =
    ap (λ p. are_new earlier (denial_in p)) is ∙ new_one earlier (denied_by denial) false (sym told ∙ none) ∙ ap denial_in (sym is)

pub old_place : (earlier : List Record) (place : Option Denial) (denial : Denial) (there : Bool) → place ≡ Some denial
    → there ≡ list_any (λ each. same_denial each (denied_by denial)) earlier → there ≡ true → are_new earlier (denial_in place) ≡ []
old_place earlier place denial there is told some =
    ap (λ p. are_new earlier (denial_in p)) is ∙ new_one earlier (denied_by denial) true (sym told ∙ some)

-- behind nothing all are new
pub all_new : (denials : List Record) → are_new [] denials ≡ denials
all_new [] = refl
all_new (denial ∷ denials) = ap (λ them. denial ∷ them) (all_new denials)

-- ---- a DNAME set

-- the records of one set
one_set : (dnssec : Bool) (owner : List Label) (set : SetRec) → flat_map (set_records dnssec owner) (listed (Some set)) ≡ set_records dnssec owner (Set set)
one_set dnssec owner set = append-nil (set_records dnssec owner (Set set))

-- which no earlier link goes by
pub dname_new : (dnssec : Bool) (earlier : List SetRec) (owner : List Label) (set : SetRec) → owner ≡ set.owner → list_any (λ each. same_set each set) earlier ≡ false
    → flat_map (set_records dnssec owner) (listed (Some set)) ≡ dname_records dnssec earlier set
dname_new dnssec earlier owner set same none =
    ap (λ name. flat_map (set_records dnssec name) (listed (Some set))) same
    ∙ one_set dnssec set.owner set
    ∙ ap (λ b. cond b [] (set_records dnssec set.owner (Set set))) (sym none)

-- or which one goes by
pub dname_old : (dnssec : Bool) (earlier : List SetRec) (set : SetRec) → list_any (λ each. same_set each set) earlier ≡ true → dname_records dnssec earlier set ≡ []
dname_old dnssec earlier set some = ap (λ b. cond b [] (set_records dnssec set.owner (Set set))) some
