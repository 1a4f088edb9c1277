-- What is told, piece by piece.
use Rattle.std.proofs.Common.{◌≡◌, ℕ, ◌+◌, List, ◌++◌, take, drop, refl, sym, ◌∙◌, ap, append_assoc, Option, Some, None}
use Rattle.outside_core.specs.Told.{append_told}
use Rattle.outside_core.proofs.Pieces.{take-add}

pub append_told-append_told : (told : Option (List ℕ)) (a b : List ℕ) → append_told (append_told told a) b ≡ append_told told (a ++ b)
append_told-append_told None a b = refl
append_told-append_told (Some before) a b = ap (λ (xs : List ℕ). Some xs) (append_assoc before a b)

-- the step of a loop that hands a list over, piece by piece
pub append_told-step : (start now next : Option (List ℕ)) (p n : ℕ) (xs : List ℕ) → now ≡ append_told start (take p xs) → next ≡ append_told now (take n (drop p xs)) → next ≡ append_told start (take (p + n) xs)
append_told-step start now next p n xs so_far piece =
    piece ∙ ap (λ (o : Option (List ℕ)). append_told o (take n (drop p xs))) so_far
    ∙ append_told-append_told start (take p xs) (take n (drop p xs))
    ∙ ap (λ (ys : List ℕ). append_told start ys) (sym (take-add p n xs))
