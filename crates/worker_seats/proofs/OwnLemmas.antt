-- Lists whose elements belong to one of some numbers, and what holds of the elements of each number.
use Rattle.std.proofs.Common.{◌≡◌, ℕ, zero, suc, ◌+◌, ◌<◌, ◌≤◌, Bool, true, false, not, ◌==◌, cond, List, [], ◌∷◌, ◌++◌, length, get_or, refl, sym, ◌∙◌, ap, subst, arith, length-append}
use Rattle.std.specs.List.{All, AllZip, AllPairs, filter, flat_map, count_by, sum_by}
use Rattle.std.proofs.lemmas.Bool.{false≢true, ne_eqb}
use Rattle.std.proofs.lemmas.Bool.Decides.{Decides-eqb}
use Rattle.std.proofs.lemmas.List.{append-nil}
use Rattle.std.proofs.lemmas.List.Elements.{All-nil, All-cons, All-head, All-tail, All-filter, filter-append, filter_passes}
use Rattle.std.proofs.lemmas.List.Filters.{sum_by-filter_both, length-filter_both}
use Rattle.std.proofs.lemmas.List.Kept.{AllPairs-cons}
use Rattle.std.proofs.lemmas.List.Sums.{sum_by-append, sum_by-cons, length-filter}
use Rattle.facts.proofs.Pairs.{pairs_head, pairs_tail}

-- ---- tests

pub equal_test : (n m : ℕ) → n ≡ m → (n == m) ≡ true
equal_test n m same = (Decides-eqb n m).1 same

module _ {X : Type 0} (key : X → ℕ) where
  -- the elements of one number, in order
  abbrev pub own : ℕ → List X → List X
  own n xs = filter (λ x. key x == n) xs

  pub own_here : (n : ℕ) (x : X) (xs : List X) → key x ≡ n → own n (x ∷ xs) ≡ x ∷ own n xs
  own_here n x xs is = ap (λ b. cond b (x ∷ own n xs) (own n xs)) (equal_test (key x) n is)

  pub own_other : (n : ℕ) (x : X) (xs : List X) → (key x ≡ n → ⊥) → own n (x ∷ xs) ≡ own n xs
  own_other n x xs other = ap (λ b. cond b (x ∷ own n xs) (own n xs)) (ne_eqb (key x) n other)

  pub own_push : (n : ℕ) (xs : List X) (x : X) → key x ≡ n → own n (xs ++ x ∷ []) ≡ own n xs ++ x ∷ []
  own_push n xs x is =
      filter-append (λ y. key y == n) xs (x ∷ []) ∙ ap (λ b. own n xs ++ cond b (x ∷ []) []) (equal_test (key x) n is)

  pub own_push_other : (n : ℕ) (xs : List X) (x : X) → (key x ≡ n → ⊥) → own n (xs ++ x ∷ []) ≡ own n xs
  own_push_other n xs x other =
      filter-append (λ y. key y == n) xs (x ∷ []) ∙ ap (λ b. own n xs ++ cond b (x ∷ []) []) (ne_eqb (key x) n other) ∙ append-nil (own n xs)

  -- a longer list has as many of each number at least
  pub own_more : (n : ℕ) (xs ys : List X) → length (own n xs) ≤ length (own n (xs ++ ys))
  own_more n xs ys = omega (arith, ap length (filter-append (λ y. key y == n) xs ys), length-append (own n xs) (own n ys))

  -- the elements of other numbers
  abbrev others : ℕ → List X → List X
  others n xs = filter (λ x. not (key x == n)) xs

  others_step : (n m : ℕ) (x : X) (xs : List X) → (n ≡ m → ⊥) → own m (others n xs) ≡ own m xs → (b : Bool) → (key x == n) ≡ b → own m (others n (x ∷ xs)) ≡ own m (x ∷ xs)
  others_step n m x xs apart rest true is =
      let away : key x ≡ m → ⊥ = λ same. apart (sym ((Decides-eqb (key x) n).0 is) ∙ same) in
      ap (λ c. own m (cond (not c) (x ∷ others n xs) (others n xs))) is ∙ rest ∙ sym (own_other m x xs away)
  others_step n m x xs apart rest false is =
      ap (λ c. own m (cond (not c) (x ∷ others n xs) (others n xs))) is ∙ ap (λ l. cond (key x == m) (x ∷ l) l) rest

  others_own : (n m : ℕ) (xs : List X) → (n ≡ m → ⊥) → own m (others n xs) ≡ own m xs
  others_own n m [] apart = refl
  others_own n m (x ∷ xs) apart = others_step n m x xs apart (others_own n m xs apart) (key x == n) refl

  split_sum : (f : X → ℕ) (n : ℕ) (xs : List X) → sum_by f (own n xs) + sum_by f (others n xs) ≡ sum_by f xs
  split_sum f n xs = sum_by-filter_both (λ x. key x == n) (λ x. not (key x == n)) (λ x. refl) f xs

  split_length : (n : ℕ) (xs : List X) → length (own n xs) + length (others n xs) ≡ length xs
  split_length n xs = length-filter_both (λ x. key x == n) (λ x. not (key x == n)) (λ x. refl) xs

  own_after : (from k : ℕ) (xs : List X) → own (from + suc k) xs ≡ own (from + 1 + k) (others from xs)
  own_after from k xs =
      let same : from + suc k ≡ from + 1 + k = omega arith in
      ap (λ m. own m xs) same ∙ sym (others_own from (from + 1 + k) xs (λ e. omega (arith, e)))

  -- where each part is no longer than the elements of its number, all together are no longer than the list
  pub parts_few : {A : Type 0} (from : ℕ) (parts : List (List A)) (xs : List X) → ((k : ℕ) (d : List A) → k < length parts → length (get_or parts k d) ≤ length (own (from + k) xs)) → length (flat_map (λ (p : List A). p) parts) ≤ length xs
  parts_few from [] xs each = omega arith
  parts_few from (s ∷ parts) xs each =
      let first : length s ≤ length (own from xs) = subst (λ k. length s ≤ length (own k xs)) (omega arith) (each 0 s (omega arith)) in
      let rest = parts_few (from + 1) parts (others from xs) (λ k d lt. subst (λ l. length (get_or parts k d) ≤ length l) (own_after from k xs) (each (suc k) d (omega arith))) in
      omega (arith, length-append s (flat_map (λ p. p) parts), first, rest, split_length from xs)

-- ---- two lists whose elements have the same numbers, place by place

module _ {X Y : Type 0} (key : X → ℕ) (key' : Y → ℕ) (R : X → Y → Type 0) (n : ℕ) where
  abbrev SameKey : X → Y → Type 0
  SameKey x y = key' y ≡ key x

  abbrev EachOwn : List X → List Y → Type 0
  EachOwn xs ys = (k : ℕ) → k < n → AllZip R (own key k xs) (own key' k ys)

  head_own : (x : X) (xs : List X) (y : Y) (ys : List Y) → key' y ≡ key x → key x < n → EachOwn (x ∷ xs) (y ∷ ys) → R x y × AllZip R (own key (key x) xs) (own key' (key x) ys)
  head_own x xs y ys same within each =
      subst (λ l. AllZip R (x ∷ own key (key x) xs) l) (own_here key' (key x) y ys same)
      (subst (λ l. AllZip R l (own key' (key x) (y ∷ ys))) (own_here key (key x) x xs refl) (each (key x) within))

  tail_own : (x : X) (xs : List X) (y : Y) (ys : List Y) → key' y ≡ key x → key x < n → EachOwn (x ∷ xs) (y ∷ ys) → (k : ℕ) → k < n → (b : Bool) → (key x == k) ≡ b → AllZip R (own key k xs) (own key' k ys)
  tail_own x xs y ys same within each k lt true is =
      subst (λ m. AllZip R (own key m xs) (own key' m ys)) ((Decides-eqb (key x) k).0 is) (head_own x xs y ys same within each).1
  tail_own x xs y ys same within each k lt false is =
      let apart : key x ≡ k → ⊥ = λ e. false≢true (sym is ∙ (Decides-eqb (key x) k).1 e) in
      let apart' : key' y ≡ k → ⊥ = λ e. apart (sym same ∙ e) in
      subst (λ l. AllZip R (own key k xs) l) (own_other key' k y ys apart')
      (subst (λ l. AllZip R l (own key' k (y ∷ ys))) (own_other key k x xs apart) (each k lt))

  -- what holds of the elements of each number holds of all
  pub zip_own : (xs : List X) (ys : List Y) → All (λ x. key x < n) xs → AllZip SameKey xs ys → EachOwn xs ys → AllZip R xs ys
  zip_own [] [] below same each = tt
  zip_own [] (y ∷ ys) below same each = absurd same
  zip_own (x ∷ xs) [] below same each = absurd same
  zip_own (x ∷ xs) (y ∷ ys) below same each =
      let within = All-head (λ z. key z < n) x xs below in (
        (head_own x xs y ys same.0 within each).0,
        zip_own xs ys (All-tail (λ z. key z < n) x xs below) same.1 (λ k lt. tail_own x xs y ys same.0 within each k lt (key x == k) refl),
      )

-- ---- pairs of one list

module _ {X : Type 0} (key : X → ℕ) (R : X → X → Type 0) (n : ℕ) where
  abbrev pub Related : X → X → Type 0
  Related x y = key x ≡ key y → R x y

  all_own_step : (P : X → Type 0) (m : ℕ) (x : X) (xs : List X) → All P (own key m (x ∷ xs)) → (b : Bool) → (key x == m) ≡ b → All P (own key m xs) × (m ≡ key x → P x)
  all_own_step P m x xs all true is =
      let whole = subst (All P) (own_here key m x xs ((Decides-eqb (key x) m).0 is)) all in
      (All-tail P x (own key m xs) whole, λ same. All-head P x (own key m xs) whole)
  all_own_step P m x xs all false is =
      let apart : key x ≡ m → ⊥ = λ e. false≢true (sym is ∙ (Decides-eqb (key x) m).1 e) in
      (subst (All P) (own_other key m x xs apart) all, λ same. absurd (apart (sym same)))

  -- what holds of the elements of a number holds of each element, if it has the number
  pub all_own : (P : X → Type 0) (m : ℕ) (xs : List X) → All P (own key m xs) → All (λ x. m ≡ key x → P x) xs
  all_own P m [] all = All-nil (λ x. m ≡ key x → P x)
  all_own P m (x ∷ xs) all =
      let step = all_own_step P m x xs all (key x == m) refl in
      All-cons (λ y. m ≡ key y → P y) x xs step.1 (all_own P m xs step.0)

  pairs_step : (x : X) (xs : List X) (m : ℕ) → AllPairs R (own key m (x ∷ xs)) → (b : Bool) → (key x == m) ≡ b → AllPairs R (own key m xs)
  pairs_step x xs m pairs true is = pairs_tail R x (own key m xs) (subst (AllPairs R) (own_here key m x xs ((Decides-eqb (key x) m).0 is)) pairs)
  pairs_step x xs m pairs false is = subst (AllPairs R) (own_other key m x xs (λ e. false≢true (sym is ∙ (Decides-eqb (key x) m).1 e))) pairs

  -- what holds of each two elements of each number holds of all two of one number
  pub pairs_own : (xs : List X) → All (λ x. key x < n) xs → ((m : ℕ) → m < n → AllPairs R (own key m xs)) → AllPairs Related xs
  pairs_own [] below each = λ i j d lt lt'. absurd (omega arith)
  pairs_own (x ∷ xs) below each =
      let here = subst (AllPairs R) (own_here key (key x) x xs refl) (each (key x) (All-head (λ y. key y < n) x xs below)) in
      AllPairs-cons Related x xs (all_own (R x) (key x) xs (pairs_head R x (own key (key x) xs) here))
      (pairs_own xs (All-tail (λ y. key y < n) x xs below) (λ m lt. pairs_step x xs m (each m lt) (key x == m) refl))

-- ---- sums

sum_flat : {X A : Type 0} (h : A → ℕ) (of' : X → List A) (xs : List X) → sum_by h (flat_map of' xs) ≡ sum_by (λ x. sum_by h (of' x)) xs
sum_flat h of' [] = refl
sum_flat h of' (x ∷ xs) = sum_by-append h (of' x) (flat_map of' xs) ∙ ap (λ n. sum_by h (of' x) + n) (sum_flat h of' xs) ∙ sym (sum_by-cons (λ y. sum_by h (of' y)) x xs)

module _ {X A S : Type 0} (key : X → ℕ) (of' : X → List A) (part : S → List A) (h : A → ℕ) where
  abbrev weight : X → ℕ
  weight x = sum_by h (of' x)

  -- each part is what the elements of its number give, where the first part has this number
  abbrev pub ArePartsFrom : ℕ → List S → List X → Type 0
  ArePartsFrom from parts xs = (k : ℕ) (d : S) → k < length parts → part (get_or parts k d) ≡ flat_map of' (own key (from + k) xs)

  abbrev AreWithin : ℕ → ℕ → List X → Type 0
  AreWithin from count xs = All (λ x. (from ≤ key x) × (key x < from + count)) xs

  none_within : (from : ℕ) (xs : List X) → AreWithin from 0 xs → xs ≡ []
  none_within from [] within = refl
  none_within from (x ∷ xs) within = let here = All-head (λ y. (from ≤ key y) × (key y < from + 0)) x xs within in absurd (omega (arith, here.0, here.1))

  others_within : (from count : ℕ) (xs : List X) → AreWithin from (suc count) xs → AreWithin (from + 1) count (others key from xs)
  others_within from count xs within = λ k d lt.
      let inside = All-filter (λ x. not (key x == from)) (λ y. (from ≤ key y) × (key y < from + suc count)) xs within k d lt in
      let passed = filter_passes (λ x. not (key x == from)) xs k d lt in
      let apart : key (get_or (others key from xs) k d) ≡ from → ⊥ = λ e. false≢true (sym (ap not (equal_test (key (get_or (others key from xs) k d)) from e)) ∙ passed) in
      (omega (arith, inside.0, apart), omega (arith, inside.1))

  pub parts_sum : (from : ℕ) (parts : List S) (xs : List X) → AreWithin from (length parts) xs → ArePartsFrom from parts xs → sum_by h (flat_map part parts) ≡ sum_by h (flat_map of' xs)
  parts_sum from [] xs within each = ap (λ l. sum_by h (flat_map of' l)) (sym (none_within from xs within))
  parts_sum from (s ∷ parts) xs within each =
      let first : part s ≡ flat_map of' (own key from xs) = subst (λ k. part s ≡ flat_map of' (own key k xs)) (omega arith) (each 0 s (omega arith)) in
      let rest = parts_sum (from + 1) parts (others key from xs) (others_within from (length parts) xs within)
      (λ k d lt. each (suc k) d (omega arith) ∙ ap (flat_map of') (own_after key from k xs)) in
      sum_by-append h (part s) (flat_map part parts)
      ∙ ap (λ l. sum_by h l + sum_by h (flat_map part parts)) first
      ∙ ap (λ n. sum_by h (flat_map of' (own key from xs)) + n) rest
      ∙ (λ i. sum_flat h of' (own key from xs) i + sum_flat h of' (others key from xs) i)
      ∙ split_sum key weight from xs
      ∙ sym (sum_flat h of' xs)

-- ---- numbers that are each once in a list

times_others : (n m : ℕ) (xs : List ℕ) → (n ≡ m → ⊥) → count_by (λ x. x == m) (others (λ x. x) n xs) ≡ count_by (λ x. x == m) xs
times_others n m xs apart = sym (length-filter (λ x. x == m) (others (λ x. x) n xs)) ∙ ap length (others_own (λ x. x) n m xs apart) ∙ length-filter (λ x. x == m) xs

-- where each number below n is in the list, the list has n elements at least
pub at_least : (n : ℕ) (xs : List ℕ) → ((m : ℕ) → m < n → 1 ≤ count_by (λ x. x == m) xs) → n ≤ length xs
at_least zero xs each = omega arith
at_least (suc n) xs each =
    let fewer = at_least n (others (λ x. x) n xs) (λ m lt. omega (arith, times_others n m xs (λ e. omega (arith, e)), each m (omega arith))) in
    omega (arith, split_length (λ x. x) n xs, length-filter (λ x. x == n) xs, each n (omega arith))
