use Rattle.std.proofs.Common.{◌∙◌, sym, ap}
use Rattle.std.specs.Option.{option_and_then}
use Rattle.cache_meaning.specs.declared.chain.Chain.{Chain}
use Rattle.cache_meaning.specs.Prove.{chain_proof}
use Rattle.cache_meaning.specs.Lent.{lent_chain}
use Rattle.resolver.proofs.proving.chain_proof.Goals as goal

pub returns-in-Nsec3-clause-proof : goal.returns-in-Nsec3-clause-proof
returns-in-Nsec3-clause-proof c =
    let zone = c.args.zone.now in
    c.judge-in-Nsec3.ensures.proof
    ∙ ap (λ (chain : Chain). option_and_then (chain_proof zone.held c.args.now zone.apex c.args.name.now c.args.qtype) (lent_chain chain)) (sym c.in-Nsec3.is)
