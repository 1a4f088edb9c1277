use Rattle.std.proofs.Common.{subst}
use Rattle.std.specs.Prelude.{◌↔◌, IfSome, IsSome}
use Rattle.cache_meaning.specs.Prove.{zone_proof}
use Rattle.cache_meaning.specs.Verdict.{IsVerdictOf}
use Rattle.cache_meaning.proofs.StepLemmas.{in_zone}
use Rattle.resolver.proofs.proving.prove.Goals as goal

pub returns-clause-proved : goal.returns-clause-proved
returns-clause-proved c =
    subst (λ found. IfSome c.prove_in.result (IsVerdictOf c.args.now found))
    (in_zone c.args.store.now (λ held apex. zone_proof held c.args.now apex c.args.name.now c.args.qtype) _ c.in_ok-zone.zone c.in_ok-zone.ensures)
    c.prove_in.ensures.proved

pub returns-clause-exact : goal.returns-clause-exact
returns-clause-exact c =
    subst (λ found. IsSome c.prove_in.result ↔ IsSome found)
    (in_zone c.args.store.now (λ held apex. zone_proof held c.args.now apex c.args.name.now c.args.qtype) _ c.in_ok-zone.zone c.in_ok-zone.ensures)
    c.prove_in.ensures.exact
