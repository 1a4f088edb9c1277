-- What holds of each two elements of a list.
use Rattle.std.proofs.Common.{zero, suc, ℕ, ◌<◌, List, [], ◌∷◌, ◌++◌, length, get_or, Contains, AllPairs, arith}
use Rattle.std.proofs.lemmas.List.Kept.{AllPairs-cons}
use Rattle.std.proofs.lemmas.List.Elements.{All-append}
use Rattle.facts.proofs.Lists.{here, there}
use Rattle.facts.proofs.Pairs.{pairs_head, pairs_tail}

module _ {X : Type 0} (R : X → X → Type 0) where
  pub AllPairs-nil : AllPairs R []
  AllPairs-nil i j d below within = absurd (omega arith)

  pub AllPairs-one : (x : X) → AllPairs R (x ∷ [])
  AllPairs-one x i j d below within = absurd (omega arith)

  pub AllPairs-append : (xs ys : List X) → AllPairs R xs → AllPairs R ys → ((x y : X) → Contains xs x → Contains ys y → R x y) → AllPairs R (xs ++ ys)
  AllPairs-append [] ys one other across = other
  AllPairs-append (x ∷ xs) ys one other across =
      AllPairs-cons R x (xs ++ ys) (All-append (R x) xs ys (pairs_head R x xs one) (λ k d within. across x (get_or ys k d) (here x xs) (within_it ys k d within)))
      (AllPairs-append xs ys (pairs_tail R x xs one) other (λ z y has. across z y (there x xs z has)))
    where
      within_it : (zs : List X) (k : ℕ) (d : X) → k < length zs → Contains zs (get_or zs k d)
      within_it [] k d within = absurd (omega arith)
      within_it (z ∷ zs) zero d within = here z zs
      within_it (z ∷ zs) (suc k) d within = there z zs (get_or zs k d) (within_it zs k d (omega arith))
