use Rattle.denial_records.specs.Nsec3Parts.{IsNsec3}
use Rattle.denial_records.specs.declared.nsec3_parts.Nsec3Parts.{Nsec3Parts}
use Rattle.intake.proofs.StoredLemmas.{nsec3_only}
use Rattle.intake.proofs.nsec3.nsec3_record.Goals as goal

pub returns-in_default : goal.returns-in_default
returns-in_default c = λ group is taken stored.
    let only = nsec3_only c.args.now group c.args.group.now c.args.image c.args.signatures taken c.requires.rtype is stored in
    c.in_default.ensures only.nsec3.hash (rw c.name.ensures only.hashed)

pub returns-in_default-2 : goal.returns-in_default-2
returns-in_default-2 c = λ group is taken stored.
    let none : (parts : Nsec3Parts) → IsNsec3 c.args.image parts → ⊥ = rw (c.as_slice.ensures, c.in_default-2.is) at c.in_ok-parts.ensures in
    let only = nsec3_only c.args.now group c.args.group.now c.args.image c.args.signatures taken c.requires.rtype is stored in
    none only.stored.parts only.reads
