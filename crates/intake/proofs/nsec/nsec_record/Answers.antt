use Rattle.std.proofs.Common.{subst}
use Rattle.dname.specs.Name.{IsUnder}
use Rattle.denial_records.specs.NsecParts.{IsNsec}
use Rattle.denial_records.specs.declared.nsec_parts.NsecParts.{NsecParts}
use Rattle.intake.proofs.StoredLemmas.{nsec_only, nsec_same}
use Rattle.intake.proofs.nsec.nsec_record.Goals as goal

pub returns-in_default : goal.returns-in_default
returns-in_default c = λ group is taken stored.
    let none : (parts : NsecParts) → IsNsec c.args.image parts → ⊥ = rw (c.as_slice.ensures, c.in_default.is) at c.in_ok-parts.ensures in
    let only = nsec_only c.args.now group c.args.group.now c.args.image c.args.signatures taken c.requires.rtype is stored in
    none only.stored.parts only.reads

pub returns-then-not-is_under : goal.returns-then-not-is_under
returns-then-not-is_under c = λ group is taken stored.
    let reads : IsNsec c.args.image c.in-Some.parts = rw (c.as_slice.ensures, c.in-Some.is) at c.in_ok-parts.ensures in
    let only = nsec_only c.args.now group c.args.group.now c.args.image c.args.signatures taken c.requires.rtype is stored in
    let names = nsec_same c.args.image only.stored.parts c.in-Some.parts only.reads reads in
    let under = c.is_under.ensures.1 (subst (λ name. IsUnder name c.args.group.now.agreed.signer) names.0 only.inside) in
    cc
