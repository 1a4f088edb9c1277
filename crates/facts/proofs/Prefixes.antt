-- What a list and one that it begins have in common.
use Rattle.std.proofs.Common.{◌≡◌, ℕ, ◌≤◌, List, length, take, sym, ◌∙◌, ap}
use Rattle.std.proofs.lemmas.List.{take-append-le}
use mathlib.Core.List.{IsPrefix}

pub take_prefix : {A : Type 0} (xs ys : List A) (n : ℕ) → IsPrefix xs ys → n ≤ length xs → take n xs ≡ take n ys
take_prefix xs ys n begins within = sym (take-append-le n xs begins.0 within) ∙ ap (take n) begins.1
