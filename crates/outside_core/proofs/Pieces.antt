-- A list that is taken piece by piece, from its front.
use Rattle.std.proofs.Common.{◌≡◌, ℕ, ◌+◌, ◌≤◌, List, ◌++◌, take, drop, arith}
use Rattle.std.proofs.lemmas.List.{drop-drop, drop-take, take-take, take-append-drop}

-- what was taken, and what is taken next
pub take-add : {X : Type 0} (p n : ℕ) (xs : List X) → take (p + n) xs ≡ take p xs ++ take n (drop p xs)
take-add p n xs =
    let within : p ≤ p + n = omega arith in
    grind (arith, take-append-drop p (take (p + n) xs), take-take p (p + n) xs within, drop-take p n xs)

-- what is taken next, and what is left then
pub next_and_rest : {X : Type 0} (p n : ℕ) (xs : List X) → drop p xs ≡ take n (drop p xs) ++ drop (p + n) xs
next_and_rest p n xs = grind (arith, take-append-drop n (drop p xs), drop-drop n p xs)

pub ruleset taking = (take-add, next_and_rest, drop-drop)
