use Rattle.std.proofs.Common.{◌∙◌, sym}
use Rattle.cache_meaning.specs.Evidence.{nsec3_matches, hand_nothing_on}
use Rattle.cache_meaning.specs.Nsec3Steps.{denial_at_source}
use Rattle.synth_nsec3.specs.ChainAt.{chain_at}
use Rattle.synth_nsec3.proofs.StepLemmas.{where_both}
use Rattle.synth_nsec3.proofs.nsec3_steps.below_encloser.Goals as goal

pub returns-then-hand_nothing_on : goal.returns-then-hand_nothing_on
returns-then-hand_nothing_on g c =
    let chain = chain_at g.Z.HeldZone.zone c.args.chain.now in
    let encloser = c.args.encloser.now in
    let matching = c.args.matching.nsec3.now in
    c.denial_at_source.ensures
    ∙ (λ k. denial_at_source chain.held chain.moment chain.apex chain.parameters c.args.qtype (c.requires.wildcard k) matching c.args.covering.nsec3.now)
    ∙ where_both (nsec3_matches chain.parameters matching encloser) (hand_nothing_on matching.types chain.apex encloser) _ c.requires.matches
    (sym (λ k. hand_nothing_on (c.types-types.ensures k) ((c.lent.ensures ∙ c.apex.ensures) k) (c.lent-2.ensures k)) ∙ sym c.hand_nothing_on.ensures ∙ c.if-hand_nothing_on.true)
