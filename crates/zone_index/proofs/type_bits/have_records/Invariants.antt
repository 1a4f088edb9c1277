use Rattle.std.proofs.Common.{◌-◌, ◌<◌, ℕ}
use Rattle.std.specs.List.{Contains}
use Rattle.zone_meaning.specs.Zone.{IsProofType, HasType}
use Rattle.zone_index.proofs.type_bits.have_records.Given as goal

abbrev pub invariant-loop-rtype : goal.invariant-loop-rtype
invariant-loop-rtype l = (rtype : ℕ) → Contains l.types rtype → rtype < l.from → (IsProofType rtype → ⊥) → HasType l.records.zone l.records.name rtype

abbrev pub decreases-loop-rtype : goal.decreases-loop-rtype
decreases-loop-rtype l = 65536 - l.from
