use Rattle.std.proofs.Common.{◌≡◌, ◌++◌, List, ℕ, length}
use Rattle.std.specs.List.{Contains}
use Rattle.zone_meaning.specs.Zone.{HasData}
use Rattle.zone_index.proofs.truth.are_there.Given as goal

abbrev pub invariant-loop-item : goal.invariant-loop-item
invariant-loop-item l = (done : List (List ℕ)) × (done ++ l.items ≡ l.initial.items) × ((octets : List ℕ) → Contains done octets → HasData l.records.zone l.records.name l.rtype octets)

abbrev pub decreases-loop-item : goal.decreases-loop-item
decreases-loop-item l = length l.items
