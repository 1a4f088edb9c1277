use Rattle.std.specs.List.{AllWithin}
use Rattle.zone_meaning.specs.ZoneTable.{IsOf}
use Rattle.zone_meaning.proofs.group.place_of.Given as goal

abbrev pub invariant-loop-place : goal.invariant-loop-place
invariant-loop-place l = AllWithin (λ group. IsOf group l.owner l.rtype → ⊥) l.groups 0 l.place
