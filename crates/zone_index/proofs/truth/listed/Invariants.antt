use Rattle.std.proofs.Common.{◌≡◌, ◌++◌, List, ℕ, map, length}
use denote.Ref.{Bor}
use Rattle.zone_index.proofs.truth.listed.Given as goal

abbrev pub invariant-loop-item : goal.invariant-loop-item
invariant-loop-item l = map (λ (item : Bor (List ℕ)). item.now) l.list.items ++ l.items ≡ l.initial.items

abbrev pub decreases-loop-item : goal.decreases-loop-item
decreases-loop-item l = length l.items
