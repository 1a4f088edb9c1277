-- Items that stand one after the other in a message, as the records of a section do.
use Rattle.std.specs.Prelude.{◌≡◌, ℕ, List, [], ◌∷◌}

-- each item begins where the one before it ends, the first at the offset, and the last ends before `end`; what an item is
-- that begins at an offset and ends before another is given
abbrev pub StandInTurn : {T : Type 0} → (ℕ → T → ℕ → Type 0) → ℕ → List T → ℕ → Type 0
StandInTurn IsAt at [] end = at ≡ end
StandInTurn IsAt at (item ∷ more) end = (next : ℕ) × IsAt at item next × StandInTurn IsAt next more end
