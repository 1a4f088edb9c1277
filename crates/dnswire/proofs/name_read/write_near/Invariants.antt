use Rattle.std.proofs.Common.{◌≡◌, ◌+◌, ◌++◌, List, ℕ, length}
use Rattle.dnswire.specs.Expansions.{Expands}
use Rattle.dnswire.proofs.name_read.write_near.Given as goal

-- what was written after the octets that there were
abbrev pub invariant-loop : goal.invariant-loop
invariant-loop l =
    (rest : List ℕ) × Expands l.message l.at l.start rest × (l.octets.items ≡ l.fn.octets.items ++ rest)
    × (l.left + length rest ≡ l.room)
