-- Names that are passed, and the records that aren't left out.
use Rattle.std.proofs.Common.{◌≡◌, ◌∙◌, ℕ, zero, suc, ◌+◌, add-one, slice_get, ◌<◌, Bool, true, false, List, [], ◌∷◌, ◌++◌, length, take, drop, filter, get_or, Option, None, Some, All, refl, sym, ap, subst}
use Rattle.std.specs.Prelude.{IsTrue, ◌↔◌, not}
use Rattle.std.specs.List.{cons_option, filter_map, list_any}
use Rattle.std.specs.Option.{option_to_list}
use Rattle.std.proofs.lemmas.Bool.{false≢true}
use Rattle.std.proofs.lemmas.Bool.Decides.{same_from_decides}
use Rattle.std.proofs.lemmas.List.{append_assoc, take_more}
use Rattle.std.proofs.lemmas.List.Elements.{All-push, filter-append, filter_map-append}
use Rattle.std.proofs.lemmas.List.Recursion.{or_is}
use Rattle.facts.proofs.Filters.{filter_all}
use Rattle.dname.specs.Name.{IsUnder, Label}
use Rattle.dname.specs.Tests.{is_under}
use Rattle.dname.proofs.UnderLemmas.{under_decides}
use Rattle.denial_records.specs.declared.batch.Batch.{Batch}
use Rattle.denial_records.specs.declared.record.Record.{Record}
use Rattle.forwarding.specs.Passed.{is_left_out, is_passed, some_batch, stored_of}

-- ---- names

pub under_is : (name other : List Label) (b : Bool) → (IsTrue b ↔ IsUnder name other) → b ≡ is_under name other
under_is name other b says = same_from_decides b (is_under name other) (says.0, says.1) (under_decides name other)

-- some name passes the test, or none does
pub some_passes : (test : List Label → Bool) (names : List (List Label)) (i : ℕ) → i < length names → test (get_or names i []) ≡ true → true ≡ list_any test names
some_passes test names i within is =
    or_is (list_any test) test refl (λ x xs. refl) names [] true (λ h. (i, within, is)) (λ h. absurd (false≢true (sym h)))

pub none_passes : (test : List Label → Bool) (names : List (List Label)) → ((k : ℕ) → k < length names → test (get_or names k []) ≡ false) → false ≡ list_any test names
none_passes test names none =
    or_is (list_any test) test refl (λ x xs. refl) names [] false (λ h. absurd (false≢true h)) (λ h. none)

-- ---- the names that octets are

one_given : {Y : Type 0} (found : Option Y) → option_to_list found ≡ cons_option found []
one_given None = refl
one_given (Some y) = refl

-- with one more, where it gives something
pub given_next : {X Y : Type 0} (f : X → Option Y) (xs : List X) (i : ℕ) (d : X) (before ys ys' : List Y) → i < length xs → ys ≡ before ++ filter_map f (take i xs) → ys' ≡ ys ++ option_to_list (f (get_or xs i d)) → ys' ≡ before ++ filter_map f (take (i + 1) xs)
given_next f xs i d before ys ys' within so_far is =
    is
    ∙ ap (λ l. l ++ option_to_list (f (get_or xs i d))) so_far
    ∙ append_assoc before (filter_map f (take i xs)) (option_to_list (f (get_or xs i d)))
    ∙ ap (λ l. before ++ (filter_map f (take i xs) ++ l)) (one_given (f (get_or xs i d)))
    ∙ ap (λ l. before ++ l) (sym (filter_map-append f (take i xs) (get_or xs i d ∷ [])))
    ∙ ap (λ l. before ++ filter_map f l) (sym (take_more xs i d within))

-- ---- records

abbrev pub others_of : List (List Label) → List Record → List Record
others_of passed records = filter (λ kept. not (is_left_out passed kept)) records

drop_at : {X : Type 0} (xs : List X) (i : ℕ) (x : X) → slice_get xs i ≡ Some x → drop i xs ≡ x ∷ drop (suc i) xs
drop_at [] i x is = absurd (cc is)
drop_at (y ∷ ys) zero x is = let same : y ≡ x = cc is in ap (λ z. z ∷ ys) same
drop_at (y ∷ ys) (suc i) x is = drop_at ys i x is

take_at : {X : Type 0} (xs : List X) (i : ℕ) (x : X) → slice_get xs i ≡ Some x → take (suc i) xs ≡ take i xs ++ x ∷ []
take_at [] i x is = absurd (cc is)
take_at (y ∷ ys) zero x is = let same : y ≡ x = cc is in ap (λ z. z ∷ []) same
take_at (y ∷ ys) (suc i) x is = ap (λ l. y ∷ l) (take_at ys i x is)

-- with the records that are left, those that were kept give the whole
pub others_next : (passed : List (List Label)) (records others others' all : List Record) (i : ℕ) (kept : Record) → slice_get records i ≡ Some kept → others' ≡ others ++ others_of passed (kept ∷ [])
    → others ++ others_of passed (drop i records) ≡ all → others' ++ others_of passed (drop (i + 1) records) ≡ all
others_next passed records others others' all i kept at is whole =
    let rest = others_of passed (drop (suc i) records) in
    ap (λ (n : ℕ). others' ++ others_of passed (drop n records)) (add-one i)
    ∙ ap (λ (l : List Record). l ++ rest) is
    ∙ append_assoc others (others_of passed (kept ∷ [])) rest
    ∙ ap (λ (l : List Record). others ++ l) (sym (filter-append (λ r. not (is_left_out passed r)) (kept ∷ []) (drop (suc i) records)))
    ∙ ap (λ (l : List Record). others ++ others_of passed l) (sym (drop_at records i kept at))
    ∙ whole

-- one more record isn't left out
pub none_more : (passed : List (List Label)) (records : List Record) (i : ℕ) (kept : Record) (b : Bool) → slice_get records i ≡ Some kept → b ≡ is_left_out passed kept → b ≡ false
    → All (λ r. not (is_left_out passed r) ≡ true) (take i records) → All (λ r. not (is_left_out passed r) ≡ true) (take (i + 1) records)
none_more passed records i kept b at test is all =
    subst (All (λ r. not (is_left_out passed r) ≡ true)) (sym (ap (λ (n : ℕ). take n records) (add-one i) ∙ take_at records i kept at))
    (All-push (λ r. not (is_left_out passed r) ≡ true) (take i records) kept all (ap not (sym test ∙ is)))

-- where none is left out all are kept
pub all_kept : (passed : List (List Label)) (records : List Record) → All (λ kept. not (is_left_out passed kept) ≡ true) records → others_of passed records ≡ records
all_kept passed records all = filter_all (λ kept. not (is_left_out passed kept)) records all

-- what is stored of a batch of which all is kept
pub stored_whole : (passed : List (List Label)) (batch : Batch) (stored : Option Batch) → All (λ kept. not (is_left_out passed kept) ≡ true) batch.records → stored ≡ some_batch batch batch.records → stored ≡ stored_of passed batch
stored_whole passed batch stored all is = is ∙ ap (some_batch batch) (sym (all_kept passed batch.records all))

-- a batch that has records is itself
some_by : (batch : Batch) (records : List Record) → batch.records ≡ records → (records ≡ [] → ⊥) → Some batch ≡ some_batch batch records
some_by batch [] is none = absurd (none refl)
some_by batch (first ∷ more) is none = ap (λ (l : List Record). Some (record batch { records = l })) is

pub some_is : (batch : Batch) (records : List Record) → batch.records ≡ records → (empty : Bool) → (IsTrue empty ↔ (records ≡ [])) → empty ≡ false → Some batch ≡ some_batch batch records
some_is batch records is empty says not_empty = some_by batch records is (λ none. false≢true (sym not_empty ∙ says.1 none))
