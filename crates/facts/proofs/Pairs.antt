-- What holds of each two elements of a list holds of the first with each other, and of each two of the rest.
use Rattle.std.proofs.Common.{zero, suc, List, ◌∷◌, All, AllPairs, arith}

module _ {X : Type 0} (R : X → X → Type 0) where
  pub pairs_head : (x : X) (xs : List X) → AllPairs R (x ∷ xs) → All (R x) xs
  pairs_head x xs h j d within = h zero (suc j) d (omega arith) (omega arith)

  pub pairs_tail : (x : X) (xs : List X) → AllPairs R (x ∷ xs) → AllPairs R xs
  pairs_tail x xs h i j d below within = h (suc i) (suc j) d (omega arith) (omega arith)
