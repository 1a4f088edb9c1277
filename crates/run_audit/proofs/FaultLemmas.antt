-- What is wrong with the records that a proof uses, part by part.
use Rattle.std.proofs.Common.{◌≡◌, ℕ, zero, suc, ◌+◌, ◌<◌, ◌≤◌, ◌⊎◌, inl, inr, Bool, true, false, IsTrue, ◌↔◌, List, [], ◌∷◌, ◌++◌, length, take, drop, get_or, slice_get, Option, Some, None, refl, sym, ◌∙◌, ap, subst, arith, length-append, append_assoc, take-append-drop}
use Rattle.std.specs.Prelude.{IfSome, is_some}
use Rattle.std.specs.List.{All}
use Rattle.std.specs.Option.{option_map, option_copied, option_to_list}
use Rattle.std.proofs.lemmas.Bool.{false≢true}
use Rattle.std.proofs.lemmas.Grind.{flat_map-append}
use Rattle.std.proofs.lemmas.List.{append-nil, drop_more, take_all, take_at, take_more}
use Rattle.std.proofs.lemmas.List.Elements.{All-nil, All-cons, All-head, All-tail, All-append}
use denote.Ref.{Bor}
use Rattle.dname.specs.Name.{Label}
use Rattle.denial_records.specs.Proof.{used_in, denied_by}
use Rattle.denial_records.specs.declared.nsec3_rec.Nsec3Rec.{Nsec3Rec}
use Rattle.denial_records.specs.declared.record.Record.{Record}
use Rattle.denial_records.specs.declared.record.Record.TheVariants.{Set}
use Rattle.denial_records.specs.declared.set_rec.SetRec.{SetRec}
use Rattle.denial_records.specs.declared.verdict.Verdict.{Verdict}
use Rattle.cache_meaning.specs.Held.{parameters_of}
use Rattle.cache_meaning.specs.Evidence.{hash_by}
use Rattle.zone_meaning.specs.Zone.{Zone}
use Rattle.zone_meaning.specs.Hashed.{IsClashFree}
use Rattle.soundness.specs.True.{IsTrueOf, IsClashFreeFor}
use Rattle.reply_core.specs.Shown.{shown_by}
use Rattle.run_audit.specs.Faults.{parts_of, present, IsFirstOf}
use Rattle.run_audit.specs.Findings.{IsFirstFalse}

-- ---- lists

all_left : {X : Type 0} (P : X → Type 0) (xs ys : List X) → All P (xs ++ ys) → All P xs
all_left P [] ys all = All-nil P
all_left P (x ∷ xs) ys all = All-cons P x xs (All-head P x (xs ++ ys) all) (all_left P xs ys (All-tail P x (xs ++ ys) all))

all_right : {X : Type 0} (P : X → Type 0) (xs ys : List X) → All P (xs ++ ys) → All P ys
all_right P [] ys all = all
all_right P (x ∷ xs) ys all = all_right P xs ys (All-tail P x (xs ++ ys) all)

at_seam : {X : Type 0} (xs ys : List X) (x : X) → slice_get (xs ++ x ∷ ys) (length xs) ≡ Some x
at_seam [] ys x = refl
at_seam (other ∷ xs) ys x = at_seam xs ys x

-- ---- parts, of which some are there

module _ {X : Type 0} (P : X → Type 0) where
  all_option : (o : Option X) → IfSome o P → All P (option_to_list o)
  all_option None so = All-nil P
  all_option (Some x) so = All-cons P x [] so (All-nil P)

  option_all : (o : Option X) → All P (option_to_list o) → IfSome o P
  option_all None all = tt
  option_all (Some x) all = All-head P x [] all

  pub all_present : (parts : List (Option X)) → ((i : ℕ) → IfSome (get_or parts i None) P) → All P (present parts)
  all_present [] each = All-nil P
  all_present (o ∷ parts) each = All-append P (option_to_list o) (present parts) (all_option o (each zero)) (all_present parts (λ i. each (suc i)))

  pub present_all : (parts : List (Option X)) → All P (present parts) → (i : ℕ) → IfSome (get_or parts i None) P
  present_all [] all i = tt
  present_all (o ∷ parts) all zero = option_all o (all_left P (option_to_list o) (present parts) all)
  present_all (o ∷ parts) all (suc i) = present_all parts (all_right P (option_to_list o) (present parts) all) i

  -- the first that isn't so, among those that are there
  pub record IsFirstNot (items : List X) (used : ℕ) : Type 0 where
    pub item : X
    pub there : slice_get items used ≡ Some item
    pub not : P item → ⊥
    pub before : All P (take used items)

  -- so many parts are so, and so many of them are there
  pub record HasPassed (parts : List (Option X)) (n used : ℕ) : Type 0 where
    pub used_is : used ≡ length (present (take n parts))
    pub each : All P (present (take n parts))
    pub few : used ≤ n

  pub passed_none : (parts : List (Option X)) → HasPassed parts 0 0
  passed_none parts = record { used_is = refl; each = All-nil P; few = omega arith }

  present_more : (parts : List (Option X)) (n : ℕ) → n < length parts → present (take (n + 1) parts) ≡ present (take n parts) ++ option_to_list (get_or parts n None)
  present_more parts n within =
      ap present (take_more parts n None within)
      ∙ flat_map-append option_to_list (take n parts) (get_or parts n None ∷ [])
      ∙ ap (λ l. present (take n parts) ++ l) (append-nil (option_to_list (get_or parts n None)))

  module _ (parts : List (Option X)) (n used : ℕ) (within : n < length parts) (has : HasPassed parts n used) where
    passed_by : (m : ℕ) → IfSome (get_or parts n None) P → m ≡ length (option_to_list (get_or parts n None)) → m ≤ 1 → HasPassed parts (n + 1) (used + m)
    passed_by m so is small = record {
      used_is = omega (arith, has.used_is, is, ap length (present_more parts n within), length-append (present (take n parts)) (option_to_list (get_or parts n None)));
      each = subst (All P) (sym (present_more parts n within)) (All-append P (present (take n parts)) (option_to_list (get_or parts n None)) has.each (all_option (get_or parts n None) so));
      few = omega (arith, has.few, small);
    }

    pub passed_there : IfSome (get_or parts n None) P → is_some (get_or parts n None) ≡ true → HasPassed parts (n + 1) (used + 1)
    passed_there so there = passed_by 1 so (one (get_or parts n None) there) (omega arith)
      where
        one : (o : Option X) → is_some o ≡ true → 1 ≡ length (option_to_list o)
        one None is = absurd (false≢true is)
        one (Some x) is = refl

    pub passed_absent : IfSome (get_or parts n None) P → is_some (get_or parts n None) ≡ false → HasPassed parts (n + 1) used
    passed_absent so absent = subst (HasPassed parts (n + 1)) (omega arith) (passed_by 0 so (none (get_or parts n None) absent) (omega arith))
      where
        none : (o : Option X) → is_some o ≡ false → 0 ≡ length (option_to_list o)
        none None is = refl
        none (Some x) is = absurd (false≢true (sym is))

    split : parts ≡ take n parts ++ get_or parts n None ∷ drop (n + 1) parts
    split = sym (take-append-drop n parts) ∙ ap (λ l. take n parts ++ l) (drop_more parts n None within)

    stopped : (o : Option X) → get_or parts n None ≡ o → (IfSome o P → ⊥) → IsFirstNot (present parts) used
    stopped None is not = absurd (not tt)
    stopped (Some x) is not =
        let seam : present parts ≡ present (take n parts) ++ x ∷ present (drop (n + 1) parts) =
        ap present split ∙ flat_map-append option_to_list (take n parts) (get_or parts n None ∷ drop (n + 1) parts)
        ∙ ap (λ o. present (take n parts) ++ (option_to_list o ++ present (drop (n + 1) parts))) is in
        record {
          item = x;
          there = ap (slice_get (present parts)) has.used_is ∙ ap (λ l. slice_get l (length (present (take n parts)))) seam ∙ at_seam (present (take n parts)) (present (drop (n + 1) parts)) x;
          not = not;
          before = subst (All P)
              (sym (ap (λ m. take m (present parts)) has.used_is ∙ ap (take (length (present (take n parts)))) seam ∙ take_at (present (take n parts)) (x ∷ present (drop (n + 1) parts)) (length (present (take n parts))) refl))
              has.each;
        }

    pub passed_not : (IfSome (get_or parts n None) P → ⊥) → IsFirstNot (present parts) used
    passed_not = stopped (get_or parts n None) refl

  pub passed_all : (parts : List (Option X)) (n used : ℕ) → HasPassed parts n used → length parts ≤ n → All P (present parts)
  passed_all parts n used has long = subst (λ l. All P (present l)) (take_all n parts long) has.each

-- ---- the parts of a verdict

used_parts : (verdict : Verdict) → present (parts_of verdict) ≡ used_in (shown_by verdict)
used_parts verdict =
    let answer = option_to_list (option_map Set (option_copied verdict.answer_set)) in
    let soa = option_to_list (option_map Set (option_copied verdict.soa)) in
    let first = option_to_list (option_map denied_by verdict.first) in
    let second = option_to_list (option_map denied_by verdict.second) in
    let third = option_to_list (option_map denied_by verdict.third) in
    ap (λ l. answer ++ (soa ++ (first ++ (second ++ l)))) (append-nil third)
    ∙ ap (λ l. answer ++ (soa ++ l)) (sym (append_assoc first second third))

module _ (zone : Zone) (verdict : Verdict) where
  -- the part as it was judged
  module _ (searched : Zone) (part used : ℕ) (is : Bool) (search_is : searched ≡ zone) (has : HasPassed (IsTrueOf zone) (parts_of verdict) part used) (within : part < 5)
      (decides : IsTrue is ↔ IfSome (get_or (parts_of verdict) part None) (IsTrueOf searched)) where
    part_is : IsTrue is ↔ IfSome (get_or (parts_of verdict) part None) (IsTrueOf zone)
    part_is = subst (λ z. IsTrue is ↔ IfSome (get_or (parts_of verdict) part None) (IsTrueOf z)) search_is decides

    pub first_stops : is ≡ false → IsFirstFalse zone (shown_by verdict) used
    first_stops no' =
        let first = passed_not (IsTrueOf zone) (parts_of verdict) part used within has (λ so. false≢true (sym no' ∙ part_is.1 so)) in
        record {
          item = first.item;
          there = ap (λ l. slice_get l used) (sym (used_parts verdict)) ∙ first.there;
          untrue = first.not;
          before = subst (λ l. All (IsTrueOf zone) (take used l)) (used_parts verdict) first.before;
        }

    pub goes_on : (there : Bool) (used' : ℕ) → is ≡ true → there ≡ is_some (get_or (parts_of verdict) part None) → ((there ≡ true) × (used' ≡ used + 1)) ⊎ ((there ≡ false) × (used' ≡ used)) → HasPassed (IsTrueOf zone) (parts_of verdict) (part + 1) used'
    goes_on there used' yes' there_is (inl (some, used_is)) =
        subst (HasPassed (IsTrueOf zone) (parts_of verdict) (part + 1)) (sym used_is)
        (passed_there (IsTrueOf zone) (parts_of verdict) part used within has (part_is.0 yes') (sym there_is ∙ some))
    goes_on there used' yes' there_is (inr (none, used_is)) =
        subst (HasPassed (IsTrueOf zone) (parts_of verdict) (part + 1)) (sym used_is)
        (passed_absent (IsTrueOf zone) (parts_of verdict) part used within has (part_is.0 yes') (sym there_is ∙ none))

  pub first_none : (part used : ℕ) → HasPassed (IsTrueOf zone) (parts_of verdict) part used → 5 ≤ part → All (IsTrueOf zone) (used_in (shown_by verdict))
  first_none part used has long = subst (All (IsTrueOf zone)) (used_parts verdict) (passed_all (IsTrueOf zone) (parts_of verdict) part used has long)

  module _ (name : List Label) where
    free_set : (set : Option (Bor SetRec)) → IfSome (option_map Set (option_copied set)) (IsClashFreeFor zone name)
    free_set None = tt
    free_set (Some set) = tt

    pub free_all : IfSome (option_map denied_by verdict.first) (IsClashFreeFor zone name) → IfSome (option_map denied_by verdict.second) (IsClashFreeFor zone name) → IfSome (option_map denied_by verdict.third) (IsClashFreeFor zone name)
        → All (IsClashFreeFor zone name) (used_in (shown_by verdict))
    free_all first second third = subst (All (IsClashFreeFor zone name)) (used_parts verdict) (all_present (IsClashFreeFor zone name) (parts_of verdict) each)
      where
        each : (i : ℕ) → IfSome (get_or (parts_of verdict) i None) (IsClashFreeFor zone name)
        each zero = free_set verdict.answer_set
        each (suc zero) = free_set verdict.soa
        each (suc (suc zero)) = first
        each (suc (suc (suc zero))) = second
        each (suc (suc (suc (suc zero)))) = third
        each (suc (suc (suc (suc (suc i))))) = tt

    all_free : All (IsClashFreeFor zone name) (used_in (shown_by verdict)) → (i : ℕ) → IfSome (get_or (parts_of verdict) i None) (IsClashFreeFor zone name)
    all_free all = present_all (IsClashFreeFor zone name) (parts_of verdict) (subst (All (IsClashFreeFor zone name)) (sym (used_parts verdict)) all)

    pub first_free : All (IsClashFreeFor zone name) (used_in (shown_by verdict)) → IfSome (option_map denied_by verdict.first) (IsClashFreeFor zone name)
    first_free all = all_free all 2

    pub second_free : All (IsClashFreeFor zone name) (used_in (shown_by verdict)) → IfSome (option_map denied_by verdict.second) (IsClashFreeFor zone name)
    second_free all = all_free all 3

    pub third_free : All (IsClashFreeFor zone name) (used_in (shown_by verdict)) → IfSome (option_map denied_by verdict.third) (IsClashFreeFor zone name)
    third_free all = all_free all 4

    -- the first and second are free, and the third is judged
    pub third_decides : (before searched : Zone) (first second free : Bool) → before ≡ zone → searched ≡ before → first ≡ true → second ≡ true
        → (IsTrue first ↔ IfSome (option_map denied_by verdict.first) (IsClashFreeFor zone name)) → (IsTrue second ↔ IfSome (option_map denied_by verdict.second) (IsClashFreeFor before name))
        → (IsTrue free ↔ IfSome (option_map denied_by verdict.third) (IsClashFreeFor searched name)) → IsTrue free ↔ All (IsClashFreeFor zone name) (used_in (shown_by verdict))
    third_decides before searched first second free before_is searched_is yes' yes'' first_is second_is third_is =
        let two : IfSome (option_map denied_by verdict.second) (IsClashFreeFor zone name) =
        subst (λ z. IfSome (option_map denied_by verdict.second) (IsClashFreeFor z name)) before_is (second_is.0 yes'') in
        let three : IsTrue free ↔ IfSome (option_map denied_by verdict.third) (IsClashFreeFor zone name) =
        subst (λ z. IsTrue free ↔ IfSome (option_map denied_by verdict.third) (IsClashFreeFor z name)) (searched_is ∙ before_is) third_is in
        (λ so. free_all (first_is.0 yes') two (three.0 so), λ all. three.1 (third_free all))

-- names that are hashed in one way
pub hashed_alike : (zone : Zone) (name : List Label) (one other : Nsec3Rec) → parameters_of one ≡ parameters_of other → IsClashFree zone (hash_by (parameters_of one)) name → IsClashFree zone (hash_by (parameters_of other)) name
hashed_alike zone name one other same = subst (λ p. IsClashFree zone (hash_by p) name) same
