-- Of a list with an order, at least k items have fewer than k before them, if it has k at all.
use Rattle.std.proofs.Common.{◌≡◌, ◌⊎◌, ℕ, ◌+◌, ◌-◌, ◌<◌, ◌≤◌, inl, inr, Bool, true, false, true≢false, not, nat_lt, List, [], ◌∷◌, length, cond, filter, count_by, refl, sym, ◌∙◌, ap, arith}
use Rattle.std.proofs.lemmas.Bool.{cases_lt}
use Rattle.std.proofs.lemmas.Bool.Decides.{Decides-ltb}
use Rattle.std.proofs.lemmas.List.Filters.{length-filter_both}
use Rattle.std.proofs.lemmas.List.Sums.{length-filter}

module _ {X : Type 0} where
  abbrev many : (X → Bool) → List X → ℕ
  many p xs = length (filter p xs)

  -- what fails a test less often passes it no less often
  more_pass : (p q : X → Bool) → ((x : X) → p x ≡ true → q x ≡ true) → (xs : List X) → many p xs ≤ many q xs
  more_pass p q more [] = omega arith
  more_pass p q more (x ∷ xs) = by (p x) (q x) refl refl (more_pass p q more xs)
    where
      by : (b d : Bool) → p x ≡ b → q x ≡ d → many p xs ≤ many q xs → length (cond b (x ∷ filter p xs) (filter p xs)) ≤ length (cond d (x ∷ filter q xs) (filter q xs))
      by true true is are h = omega (arith, h)
      by true false is are h = absurd (true≢false (sym (more x is) ∙ are))
      by false true is are h = omega (arith, h)
      by false false is are h = h

  module _ (before : X → X → Bool) (itself : (x : X) → before x x ≡ false) (through : (x y z : X) → before x y ≡ true → before y z ≡ true → before x z ≡ true) where
    abbrev rank : List X → X → ℕ
    rank xs x = many (λ other. before other x) xs

    abbrev first_few : List X → ℕ → X → Bool
    first_few xs k x = nat_lt (rank xs x) k

    rank_grows : (y : X) (xs : List X) (x : X) → rank (y ∷ xs) x ≤ rank xs x + 1
    rank_grows y xs x = by (before y x)
      where
        by : (b : Bool) → length (cond b (y ∷ filter (λ other. before other x) xs) (filter (λ other. before other x) xs)) ≤ rank xs x + 1
        by true = omega arith
        by false = omega arith

    rank_stays : (y : X) (xs : List X) (x : X) → before y x ≡ false → rank (y ∷ xs) x ≡ rank xs x
    rank_stays y xs x is = rw is refl

    rank_above : (y : X) (xs : List X) (x : X) → before y x ≡ true → rank xs y ≤ rank xs x
    rank_above y xs x is = more_pass (λ other. before other y) (λ other. before other x) (λ other h. through other y x h is) xs

    -- the first few of the rest stay so
    low : (y : X) (xs : List X) (k : ℕ) → k ≤ rank xs y → (x : X) → first_few xs k x ≡ true → first_few (y ∷ xs) k x ≡ true
    low y xs k small x is = by (before y x) refl
      where
        less : rank xs x < k
        less = (Decides-ltb _ _).0 is

        by : (b : Bool) → before y x ≡ b → first_few (y ∷ xs) k x ≡ true
        by true after = let up = rank_above y xs x after in absurd (omega (arith, less, up, small))
        by false not_after = let stays = rank_stays y xs x not_after in (Decides-ltb _ _).1 (omega (arith, stays, less))

    high : (y : X) (xs : List X) (k : ℕ) → 1 ≤ k → (x : X) → first_few xs (k - 1) x ≡ true → first_few (y ∷ xs) k x ≡ true
    high y xs k some x is =
        let less : rank xs x < k - 1 = (Decides-ltb _ _).0 is in
        let grows = rank_grows y xs x in
        (Decides-ltb _ _).1 (omega (arith, less, grows, some))

    skipped : (p : X → Bool) (y : X) (xs : List X) → many p xs ≤ many p (y ∷ xs)
    skipped p y xs = by (p y)
      where
        by : (b : Bool) → many p xs ≤ length (cond b (y ∷ filter p xs) (filter p xs))
        by true = omega arith
        by false = omega arith

    taken : (p : X → Bool) (y : X) (xs : List X) → p y ≡ true → many p (y ∷ xs) ≡ many p xs + 1
    taken p y xs is = rw is (omega arith)

    at_least : (xs : List X) (k : ℕ) → k ≤ length xs → k ≤ many (first_few xs k) xs
    at_least [] k within = omega (arith, within)
    at_least (y ∷ xs) k within = by (cases_lt (rank xs y) k) (at_least xs k) (at_least xs (k - 1))
      where
        by : (rank xs y < k) ⊎ (k ≤ rank xs y) → (k ≤ length xs → k ≤ many (first_few xs k) xs) → (k - 1 ≤ length xs → k - 1 ≤ many (first_few xs (k - 1)) xs) → k ≤ many (first_few (y ∷ xs) k) (y ∷ xs)
        by (inl above) all fewer =
            let own : first_few (y ∷ xs) k y ≡ true = (Decides-ltb _ _).1 (omega (arith, rank_stays y xs y (itself y), above)) in
            let rest = more_pass (first_few xs (k - 1)) (first_few (y ∷ xs) k) (high y xs k (omega (arith, above))) xs in
            let here = taken (first_few (y ∷ xs) k) y xs own in
            omega (arith, rest, here, fewer (omega (arith, within)))
        by (inr below) all fewer =
            let short : k ≤ length xs = omega (arith, below, rank_short) in
            let rest = more_pass (first_few xs k) (first_few (y ∷ xs) k) (low y xs k below) xs in
            omega (arith, rest, skipped (first_few (y ∷ xs) k) y xs, all short)
          where
            rank_short : rank xs y ≤ length xs
            rank_short = omega (arith, length-filter_both (λ other. before other y) (λ other. not (before other y)) (λ other. refl) xs)

    -- where those go that have fewer before them than there are too many, no more than the limit stay
    pub limit_holds : (most : ℕ) (xs : List X) → length (filter (λ x. not (nat_lt (count_by (λ other. before other x) xs) (length xs - most))) xs) ≤ most
    limit_holds most xs =
        let gone = at_least xs (length xs - most) (omega arith) in
        let same = more_pass (first_few xs (length xs - most)) goes (λ x h. ap (λ n. nat_lt n (length xs - most)) (sym (length-filter (λ other. before other x) xs)) ∙ h) xs in
        omega (arith, gone, same, length-filter_both goes (λ x. not (goes x)) (λ x. refl) xs)
      where
        goes : X → Bool
        goes x = nat_lt (count_by (λ other. before other x) xs) (length xs - most)
