use Rattle.std.proofs.Common.{◌∙◌, sym, ap, slice_get}
use Rattle.std.specs.Option.{option_or, option_and_then}
use Rattle.cache_meaning.specs.declared.chain.Chain.TheVariants.{Bare}
use Rattle.cache_meaning.specs.Lent.{lent_chain}
use Rattle.cache_meaning.specs.Prove.{chain_proof}
use Rattle.cache_meaning.specs.Zones.{chains_of}
use Rattle.cache_meaning.proofs.StepLemmas.{two_in_turn, two_places}
use Rattle.resolver.proofs.proving.by_chains.Goals as goal

pub returns-in-Some-clause-proof : goal.returns-in-Some-clause-proof
returns-in-Some-clause-proof c =
    let zone = c.args.zone.now in
    let step = chain_proof zone.held c.args.now zone.apex c.args.name.now c.args.qtype in
    let chains = chains_of zone.held zone.apex in
    let places = two_places lent_chain c.chains.result _ _ Bare c.chains.ensures.first in
    let first = sym (ap (option_and_then step) places.0) ∙ sym c.chain_proof.ensures.proof ∙ c.in-Some.is in
    sym (λ k. option_or (first k) (option_and_then step (slice_get chains 1))) ∙ two_in_turn step chains c.chains.ensures.all

pub returns-clause-proof : goal.returns-clause-proof
returns-clause-proof c =
    let zone = c.args.zone.now in
    let step = chain_proof zone.held c.args.now zone.apex c.args.name.now c.args.qtype in
    let chains = chains_of zone.held zone.apex in
    let places = two_places lent_chain c.chains.result _ _ Bare c.chains.ensures.first in
    let first = sym (ap (option_and_then step) places.0) ∙ sym c.chain_proof.ensures.proof ∙ c.in_default.is in
    c.chain_proof-2.ensures.proof ∙ ap (option_and_then step) places.1
    ∙ sym (λ k. option_or (first k) (option_and_then step (slice_get chains 1))) ∙ two_in_turn step chains c.chains.ensures.all
