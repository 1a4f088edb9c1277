use Rattle.std.proofs.Common.{List, ◌≤◌, ◌<◌, length}
use Rattle.dname.specs.Name.{Label, IsUnder}
use Rattle.zone_index.specs.Hashes.{Clashes}
use Rattle.zone_index.proofs.truth.is_clash_free.Given as goal

abbrev pub invariant-loop-labels : goal.invariant-loop-labels
invariant-loop-labels l = (above : List Label) → IsUnder l.name above → length l.zone.apex ≤ length above → length above < l.labels → Clashes l.table l.name above → ⊥
