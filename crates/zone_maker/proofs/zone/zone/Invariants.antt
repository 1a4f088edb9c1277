use Rattle.std.proofs.Common.{◌≡◌}
use Rattle.std.specs.List.Sorted.{IsPermutation}
use Rattle.zone_maker.specs.Made.{made_example, made_zone}
use Rattle.zone_maker.proofs.zone.zone.Given as goal

abbrev pub invariant-loop-i : goal.invariant-loop-i
invariant-loop-i l = (l.zone.apex ≡ made_example) × IsPermutation (made_zone l.seed l.i).records l.zone.records
