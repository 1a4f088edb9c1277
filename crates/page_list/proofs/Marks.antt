use Rattle.std.proofs.Common.{◌≡◌, ℕ, ◌+◌, ◌-◌, ◌<◌, ◌≤◌, Bool, true, false, nat_lt, List, [], ◌∷◌, ◌++◌, length, get_or, set, take, drop, Contains, length-append, inl, inr, arith, refl, sym, ap, ◌∙◌, subst, add-zero}
use denote.Ref.{Bor}
use denote.Param.Members.{Shared}
use Rattle.std.proofs.lemmas.List.{get_or_read, get_or_default, get_or_push, get_or_append_left, length_push, length-take, length-drop, length-set, get_or-set_same, get_or-set_other}
use Rattle.std.proofs.lemmas.List.Elements.{Contains-append_left, Contains-append_right, Contains-get_or}
use Rattle.std.proofs.lemmas.Bool.{cases_lt}
use Rattle.std.proofs.lemmas.Bool.Decides.{nat_tests}
use Rattle.std.specs.List.{flat_map}
use Rattle.std.specs.List.Sorted.{IsPartitionedBy}
use Rattle.page_list.specs.Marks.{Marked, mark_of, PartsAtMark}
use Rattle.page_list.specs.Rows.{IsFirstMarks}
use Rattle.page_list.specs.Search.{IsTestAt}
use Rattle.page_list.proofs.Rows.{nat_cases, flat_split, length_more, length_along, length_all, entry_at}

-- an entry that is read among the same ones
pub entry_among : {X : Type 0} (read xs : List X) (i : ℕ) (x : X) → x ≡ get_or read i x → read ≡ xs → x ≡ get_or xs i x
entry_among read xs i x is same = is ∙ ap (λ z. get_or z i x) same

pub entry_read_at : {X : Type 0} (xs : List X) (i : ℕ) (x d : X) → i < length xs → x ≡ get_or xs i x → x ≡ get_or xs i d
entry_read_at xs i x d lt is = get_or_read xs i x lt is d

pub IsFirstMarks-push : {X A : Type 0} (mark_of : A → ℕ) (f : X → List A) (xs : List X) (marks : List ℕ) (x : X) (m : ℕ) → 0 < length (f x) → ((a : A) → m ≡ mark_of (get_or (f x) 0 a)) → IsFirstMarks mark_of f xs marks → IsFirstMarks mark_of f (xs ++ x ∷ []) (marks ++ m ∷ [])
IsFirstMarks-push mark_of f xs marks x m some first was =
    let long : length marks ≡ length xs = was.one_each in
    let older : (k : ℕ) (d : _) → k < length xs → get_or (xs ++ x ∷ []) k d ≡ get_or xs k d = λ k d lt. get_or_append_left xs (x ∷ []) d k lt in
    let newest : (k : ℕ) (d : _) → length xs ≤ k → k < length (xs ++ x ∷ []) → get_or (xs ++ x ∷ []) k d ≡ x = λ k d le lt. get_or_push xs x d k (omega (arith, length_push xs x)) in
    record {
      one_each = length_push marks m ∙ (ap (λ n. n + 1) long ∙ sym (length_push xs x));
      some = λ k d h. elim (cases_lt k (length xs)) [
        | inl lt ↦ subst (λ z. 0 < length (f z)) (sym (older k d lt)) (was.some k d lt)
        | inr le ↦ subst (λ z. 0 < length (f z)) (sym (newest k d le h)) some
      ];
      first = λ k d a h. elim (cases_lt k (length xs)) [
        | inl lt ↦ get_or_append_left marks (m ∷ []) 0 k (omega arith) ∙ (was.first k d a lt ∙ ap (λ z. mark_of (get_or (f z) 0 a)) (sym (older k d lt)))
        | inr le ↦ get_or_push marks m 0 k (omega (arith, length_push xs x)) ∙ (first a ∙ ap (λ z. mark_of (get_or (f z) 0 a)) (sym (newest k d le h)))
      ];
    }

-- where the block p starts there is an entry, and the mark of p is that of this one
pub starts_with : {X A : Type 0} (mark_of : A → ℕ) (f : X → List A) (xs : List X) (marks : List ℕ) (p own : ℕ) → IsFirstMarks mark_of f xs marks → p < length xs → own ≡ get_or marks p own → (length (flat_map f (take p xs)) < length (flat_map f xs)) × ((a : A) → own ≡ mark_of (get_or (flat_map f xs) (length (flat_map f (take p xs))) a))
starts_with mark_of f [] marks p own has lt is = absurd (omega arith)
starts_with mark_of f (x ∷ xs) marks p own has lt is =
    let b : _ = get_or (x ∷ xs) p x in
    let same : get_or (x ∷ xs) p b ≡ b = get_or_default (x ∷ xs) p b x lt in
    let start : ℕ = length (flat_map f (take p (x ∷ xs))) in (
      omega (arith, has.some p x lt, length_more f (x ∷ xs) p b lt same, length_along f (x ∷ xs) (p + 1) (length (x ∷ xs)) (omega arith), length_all f (x ∷ xs) (length (x ∷ xs)) (omega arith)),
      λ a. is
          ∙ (get_or_default marks p own 0 (omega (arith, has.one_each))
          ∙ (has.first p x a lt ∙ ap mark_of (sym (entry_at f (x ∷ xs) p start 0 b a lt (sym same) refl (has.some p x lt)) ∙ ap (λ n. get_or (flat_map f (x ∷ xs)) n a) (add-zero start)))),
    )

-- what the mark of an entry tells where it is another one
pub told_by_mark : {F X : Type 0} (g : Shared F (Bor X × Unit {0}) Bool) (f : F) (mark own : ℕ) (xs : List (Marked X)) (q : Marked X → Bool) (k : ℕ) (d : Marked X) → IsTestAt g f mark xs q → k < length xs → own ≡ mark_of (get_or xs k d) → (own ≡ mark → ⊥) → q (get_or xs k d) ≡ nat_lt own mark
told_by_mark g f mark own xs q k d test lt is apart =
    let has = Contains-get_or xs k d lt in
    elim (cases_lt own mark) [
      | inl less ↦
          (let yes' : nat_lt own mark ≡ true = grind (arith, nat_tests) in
          test.parts.lesser (get_or xs k d) has (omega arith) ∙ sym yes')
      | inr le ↦
          elim (cases_lt mark own) [
            | inl more ↦
                (let no' : nat_lt own mark ≡ false = grind (arith, nat_tests) in
                test.parts.greater (get_or xs k d) has (omega arith) ∙ sym no')
            | inr ge ↦ absurd (apart (omega arith))
          ]
    ]

-- a test that marks agree with, in one block
pub parts_within : {X A : Type 0} (mark_of : A → ℕ) (mark : ℕ) (q : A → Bool) (f : X → List A) (xs : List X) (p : ℕ) (b : X) → p < length xs → b ≡ get_or xs p b → PartsAtMark mark_of mark q (flat_map f xs) → IsPartitionedBy q (f b) → PartsAtMark mark_of mark q (f b)
parts_within mark_of mark q f xs p b h is parts parted =
    let whole : flat_map f xs ≡ flat_map f (take p xs) ++ (f b ++ flat_map f (drop (p + 1) xs)) =
    flat_split f xs p b h ∙ ap (λ z. flat_map f (take p xs) ++ (f z ++ flat_map f (drop (p + 1) xs))) (sym is) in
    let among : (x : _) → Contains (f b) x → Contains (flat_map f xs) x =
    λ x has. subst (λ z. Contains z x) (sym whole) (Contains-append_right (flat_map f (take p xs)) (f b ++ flat_map f (drop (p + 1) xs)) x (Contains-append_left (f b) (flat_map f (drop (p + 1) xs)) x has)) in
    record {
      first = parted;
      lesser = λ x has less. parts.lesser x (among x has) less;
      greater = λ x has more. parts.greater x (among x has) more;
    }

-- how long it is then
pub length_replaced : {A : Type 0} (xs items all : List A) (from to n count : ℕ) → all ≡ take from xs ++ items ++ drop to xs → from ≤ to → to ≤ length xs → n ≡ length items → count ≡ from + n + (length xs - to) → length all ≡ count
length_replaced xs items all from to n count is order le nn e =
    omega (arith, ap length is, length-append (take from xs ++ items) (drop to xs), length-append (take from xs) items, length-take from xs, length-drop to xs)

-- the marks of a row in which a block stands in the place of another one
pub IsFirstMarks-set : {X A : Type 0} (mark_of : A → ℕ) (f : X → List A) (xs : List X) (marks : List ℕ) (p m : ℕ) (b : X) → p < length xs → 0 < length (f b) → ((a : A) → m ≡ mark_of (get_or (f b) 0 a)) → IsFirstMarks mark_of f xs marks → IsFirstMarks mark_of f (set xs p b) (set marks p m)
IsFirstMarks-set mark_of f xs marks p m b h some first was =
    let long : p < length marks = omega (arith, was.one_each) in
    let here : (d : _) → get_or (set xs p b) p d ≡ b = λ d. get_or-set_same xs p b d h in
    let there : (k : ℕ) (d : _) → (k ≡ p → ⊥) → get_or (set xs p b) k d ≡ get_or xs k d = λ k d apart. get_or-set_other xs p k b d apart in
    record {
      one_each = length-set marks p m ∙ (was.one_each ∙ sym (length-set xs p b));
      some = λ k d lt. elim (nat_cases k p) [
        | inl same ↦ subst (λ z. 0 < length (f z)) (sym (here d) ∙ ap (λ n. get_or (set xs p b) n d) (sym same)) some
        | inr apart ↦ subst (λ z. 0 < length (f z)) (sym (there k d apart)) (was.some k d (omega (arith, length-set xs p b)))
      ];
      first = λ k d a lt. elim (nat_cases k p) [
        | inl same ↦
            ap (λ n. get_or (set marks p m) n 0) same
            ∙ (get_or-set_same marks p m 0 long ∙ (first a ∙ ap (λ z. mark_of (get_or (f z) 0 a)) (sym (here d) ∙ ap (λ n. get_or (set xs p b) n d) (sym same))))
        | inr apart ↦
            get_or-set_other marks p k m 0 apart
            ∙ (was.first k d a (omega (arith, length-set xs p b)) ∙ ap (λ z. mark_of (get_or (f z) 0 a)) (sym (there k d apart)))
      ];
    }
