use Rattle.std.proofs.Common.{◌<◌, List, length}
use Rattle.dname.specs.Name.{Label}
use Rattle.zone_meaning.specs.Zone.{IsBar, IsBelow}
use Rattle.zone_index.proofs.zone_index.ZoneIndex.is_barred.Given as goal

abbrev pub invariant-loop-labels : goal.invariant-loop-labels
invariant-loop-labels l = (bar : List Label) → IsBar l.self bar → IsBelow l.name bar → length bar < l.labels → ⊥
