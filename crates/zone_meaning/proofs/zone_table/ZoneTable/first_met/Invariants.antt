use Rattle.std.proofs.Common.{◌<◌, List, length}
use Rattle.dname.specs.Name.{Label}
use Rattle.zone_meaning.specs.Lookup.{Meets}
use Rattle.zone_meaning.proofs.zone_table.ZoneTable.first_met.Given as goal

abbrev pub invariant-loop-n : goal.invariant-loop-n
invariant-loop-n l = (other : List Label) → Meets l.self l.name l.qtype other → length other < l.n → ⊥
