use Rattle.std.proofs.Common.{◌≡◌, ℕ, zero, suc, ◌+◌, ◌-◌, ◌<◌, ◌≤◌, Bool, true, false, List, [], ◌∷◌, length, get_or, take, inl, inr, arith, sym, ap, subst, ◌∙◌}
use denote.Ref.{Bor}
use denote.Param.Members.{Shared}
use Rattle.std.specs.Fn.{FnReturnsAt}
use Rattle.std.proofs.lemmas.Fn.{says_at}
use Rattle.std.proofs.lemmas.List.{get_or_read}
use Rattle.std.specs.List.{flat_map, prefix_len}
use Rattle.std.specs.List.Sorted.{IsPartitionedBy}
use Rattle.page_list.proofs.Rows.{length_more, entry_at, length_along, length_all}
use Rattle.page_list.specs.Marks.{Marked, mark_of}
use Rattle.page_list.specs.Search.{IsBehindLesser, IsLastOf, IsTestAt, IsTestOf, HasNarrowed, BeginsLesser, BeginsGreater}
use Rattle.std.proofs.lemmas.List.Sums.{prefix_len_is, prefix_len_passes, prefix_len_stops}
use Rattle.std.proofs.lemmas.Bool.{cases_lt, false_from_ne_true}
use Rattle.std.proofs.lemmas.List.Elements.{Contains-get_or}

-- what a call at the entry `middle` tells of any test that the calls compute
pub answered : {X F : Type 0} (g : Shared F (Bor X × Unit {0}) Bool) (f : F) (xs : List (Marked X)) (middle : ℕ) (entry : Marked X) (y : Bor X) (r b : Bool) → middle < length xs → entry ≡ get_or xs middle entry → y.now ≡ entry.value → g.post f (y, tt) r → r ≡ b → (p : Marked X → Bool) → IsTestOf g f p → (d : Marked X) → p (get_or xs middle d) ≡ b
answered g f xs middle entry y r b h e shown post eq p test d =
    sym (test entry b (subst (λ x. FnReturnsAt g f x b) shown (says_at g {f = f} {y = y} {r = r} {v = b} post eq)) ∙ ap p (get_or_read xs middle entry h e d))

pub HasNarrowed-start : {X : Type 0} (xs : List X) (IsTest : (X → Bool) → Type 0) → HasNarrowed xs IsTest 0 (length xs)
HasNarrowed-start xs IsTest = record {
  order = omega arith;
  in_range = omega arith;
  below = λ p test parted k d lt. absurd (omega arith);
  above = λ p test parted k d le lt. absurd (omega arith);
}

-- the entry `middle` passes: so does all before it
pub HasNarrowed-up : {X : Type 0} (xs : List X) (IsTest : (X → Bool) → Type 0) (low high middle low' : ℕ) → HasNarrowed xs IsTest low high → low' ≤ high → low' ≤ middle + 1 → middle < length xs → ((p : X → Bool) → IsTest p → (d : X) → p (get_or xs middle d) ≡ true) → HasNarrowed xs IsTest low' high
HasNarrowed-up xs IsTest low high middle low' was le up lt passes = record {
  order = le;
  in_range = was.in_range;
  below = λ p test parted k d lt'. parted k middle d (omega arith) lt (passes p test d);
  above = was.above;
}

-- the entry `middle` fails: so does all behind it
pub HasNarrowed-down : {X : Type 0} (xs : List X) (IsTest : (X → Bool) → Type 0) (low high middle : ℕ) → HasNarrowed xs IsTest low high → low ≤ middle → middle < length xs → ((p : X → Bool) → IsTest p → (d : X) → p (get_or xs middle d) ≡ false) → HasNarrowed xs IsTest low middle
HasNarrowed-down xs IsTest low high middle was up lt fails = record {
  order = up;
  in_range = omega arith;
  below = was.below;
  above = λ p test parted k d le lt'.
      false_from_ne_true (p (get_or xs k d)) (λ passes. let t : p (get_or xs middle d) ≡ true = parted middle k d le lt' passes in let f : p (get_or xs middle d) ≡ false = fails p test d in cc);
}

pub IsBehindLesser-start : {X : Type 0} (mark : ℕ) (entries : List (Marked X)) → IsBehindLesser mark entries 0
IsBehindLesser-start mark entries = record { in_range = omega arith; lesser = λ d some. absurd (omega arith) }

-- entries of a lesser mark come before, and none does from one of a greater mark on
pub HasNarrowed-to_run : {X F : Type 0} (g : Shared F (Bor X × Unit {0}) Bool) (f : F) (mark : ℕ) (xs : List (Marked X)) (low high : ℕ) → IsBehindLesser mark xs low → low ≤ high → high ≤ length xs → ((d : Marked X) → high < length xs → mark < mark_of (get_or xs high d)) → HasNarrowed xs (IsTestAt g f mark xs) low high
HasNarrowed-to_run g f mark xs low high behind le in_xs greater = record {
  order = le;
  in_range = in_xs;
  below = λ p test parted k d lt.
      parted k (low - 1) d (omega arith) (omega arith) (test.parts.lesser (get_or xs (low - 1) d) (Contains-get_or xs (low - 1) d (omega arith)) (behind.lesser d (omega arith)));
  above = λ p test parted k d from lt.
      false_from_ne_true (p (get_or xs k d)) (λ passes.
      let t : p (get_or xs high d) ≡ true = parted high k d from lt passes in
      let f' : p (get_or xs high d) ≡ false = test.parts.greater (get_or xs high d) (Contains-get_or xs high d (omega arith)) (greater d (omega arith)) in
      cc);
}

some_before : {X Y : Type 0} (f : Y → List X) (blocks : List Y) (low k : ℕ) → k < length (flat_map f (take low blocks)) → 0 < low
some_before f blocks zero k lt = absurd (omega (arith, lt))
some_before f blocks (suc low) k lt = omega arith

-- the same of blocks: up to one that begins with a lesser mark, and from one on that begins with a greater one
pub HasNarrowed-to_blocks : {X F Y : Type 0} (g : Shared F (Bor X × Unit {0}) Bool) (f : F) (mark : ℕ) (entries_of : Y → List (Marked X)) (blocks : List Y) (low high : ℕ) → low < high → high ≤ length blocks → (0 < low → BeginsLesser entries_of blocks mark low) → (high < length blocks → BeginsGreater entries_of blocks mark high) → HasNarrowed (flat_map entries_of blocks) (IsTestAt g f mark (flat_map entries_of blocks)) (length (flat_map entries_of (take low blocks))) (length (flat_map entries_of (take high blocks)))
HasNarrowed-to_blocks g f mark entries_of blocks low high order in_blocks lesser greater =
    let xs = flat_map entries_of blocks in
    record {
      order = length_along entries_of blocks low high (omega arith);
      in_range = omega (arith, length_along entries_of blocks high (length blocks) in_blocks, length_all entries_of blocks (length blocks) (omega arith));
      below = λ p test parted k d lt.
          let start = length (flat_map entries_of (take low blocks)) in
          let begins = lesser (some_before entries_of blocks low k lt) in
          parted k start d (omega arith) begins.in_range (test.parts.lesser (get_or xs start d) (Contains-get_or xs start d begins.in_range) (begins.lesser d));
      above = λ p test parted k d from lt.
          let start = length (flat_map entries_of (take high blocks)) in
          elim (cases_lt high (length blocks)) [
            | inl less ↦
                (let begins = greater less in
                false_from_ne_true (p (get_or xs k d)) (λ passes.
                let t : p (get_or xs start d) ≡ true = parted start k d from lt passes in
                let f' : p (get_or xs start d) ≡ false = test.parts.greater (get_or xs start d) (Contains-get_or xs start d begins.in_range) (begins.greater d) in
                cc))
            | inr all ↦ absurd (omega (arith, length_all entries_of blocks high all))
          ];
    }

-- `prefix_len_is`, at any default
prefix_len_at : {X : Type 0} (p : X → Bool) (xs : List X) (n : ℕ) → n ≤ length xs → ((k : ℕ) (d : X) → k < n → p (get_or xs k d) ≡ true) → ((d : X) → n < length xs → p (get_or xs n d) ≡ false) → n ≡ prefix_len p xs
prefix_len_at p [] n le passes stops = omega arith
prefix_len_at p (x ∷ xs) n le passes stops = sym (prefix_len_is p (x ∷ xs) n x le (λ k lt. passes k x lt) (stops x))

pub HasNarrowed-done : {X : Type 0} (xs : List X) (IsTest : (X → Bool) → Type 0) (low high : ℕ) → HasNarrowed xs IsTest low high → high ≤ low → (p : X → Bool) → IsTest p → IsPartitionedBy p xs → low ≡ prefix_len p xs
HasNarrowed-done xs IsTest low high was le p test parted =
    prefix_len_at p xs low (omega (arith, was.order, was.in_range)) (λ k d lt. was.below p test parted k d lt) (λ d lt. was.above p test parted low d le lt)

-- what a block tells of all entries, where they part in it
pub found_within : {X A : Type 0} (f : X → List A) (xs : List X) (IsTest : (A → Bool) → Type 0) (p n r : ℕ) (b : X) → p < length xs → b ≡ get_or xs p b → n ≡ length (flat_map f (take p xs)) → HasNarrowed (flat_map f xs) IsTest n (length (flat_map f (take (p + 1) xs))) → r ≤ length (f b) → ((q : A → Bool) → IsTest q → IsPartitionedBy q (f b) → r ≡ prefix_len q (f b)) → (q : A → Bool) → IsTest q → IsPartitionedBy q (flat_map f xs) → n + r ≡ prefix_len q (flat_map f xs)
found_within f xs IsTest p n r b h is start was short found q test parted =
    let next : length (flat_map f (take (p + 1) xs)) ≡ n + length (f b) = length_more f xs p b h (sym is) ∙ ap (λ m. m + length (f b)) (sym start) in
    let same : (j : ℕ) (d : _) → j < length (f b) → get_or (flat_map f xs) (n + j) d ≡ get_or (f b) j d = λ j d lt. entry_at f xs p n j b d h is start lt in
    let inner : IsPartitionedBy q (f b) = λ i j d le lt e.
    ap q (sym (same i d (omega arith))) ∙ parted (n + i) (n + j) d (omega arith) (omega (arith, was.in_range)) (ap q (same j d lt) ∙ e) in
    let r_is : r ≡ prefix_len q (f b) = found q test inner in
    prefix_len_at q (flat_map f xs) (n + r) (omega (arith, was.in_range))
    (λ k d lt. elim (cases_lt k n) [
      | inl before ↦ was.below q test parted k d before
      | inr from ↦
          let at : k ≡ n + (k - n) = omega arith in
          ap (λ m. q (get_or (flat_map f xs) m d)) at ∙ (ap q (same (k - n) d (omega arith)) ∙ prefix_len_passes q (f b) (k - n) d (omega arith))
    ])
    (λ d lt. elim (cases_lt r (length (f b))) [
      | inl inside ↦ ap q (same r d inside) ∙ (ap (λ m. q (get_or (f b) m d)) r_is ∙ prefix_len_stops q (f b) d (omega arith))
      | inr past ↦ was.above q test parted (n + r) d (omega arith) lt
    ])

-- the last of the first entries of a block, among all
pub last_within : {X A : Type 0} (f : X → List A) (xs : List X) (p n count : ℕ) (b : X) (x : A) → p < length xs → b ≡ get_or xs p b → n ≡ length (flat_map f (take p xs)) → count ≤ length (f b) → IsLastOf (f b) count x → IsLastOf (flat_map f xs) (n + count) x
last_within f xs p n count b x h is start le was =
    let back : n + (count - 1) ≡ n + count - 1 = omega (arith, was.some) in
    record {
      some = omega (arith, was.some);
      here = was.here ∙ (sym (entry_at f xs p n (count - 1) b x h is start (omega (arith, was.some))) ∙ ap (λ m. get_or (flat_map f xs) m x) back);
    }
