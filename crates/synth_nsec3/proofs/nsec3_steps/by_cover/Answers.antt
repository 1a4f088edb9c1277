use Rattle.std.proofs.Common.{◌∙◌, sym, ap, [], ◌∷◌, length, arith}
use Rattle.dname.specs.Name.{asterisk}
use Rattle.denial_records.specs.declared.record.Record.TheVariants.{Nsec3}
use Rattle.cache_meaning.specs.NsecSteps.{answer_by_wildcard}
use Rattle.cache_meaning.proofs.StepLemmas.{first_gives, second_of}
use Rattle.synth_nsec3.specs.ChainAt.{chain_at}
use Rattle.synth_nsec3.proofs.nsec3_steps.by_cover.Goals as goal

pub wildcard_below-source-requires-clause-above : goal.wildcard_below-source-requires-clause-above
wildcard_below-source-requires-clause-above g c = (c.requires.below.0 ∷ [], c.requires.below.1)

pub wildcard_below-source-requires-clause-apart : goal.wildcard_below-source-requires-clause-apart
wildcard_below-source-requires-clause-apart g c = λ e. omega (arith, ap length (sym e ∙ c.requires.below.1))

pub returns-in-Some-clause-proof : goal.returns-in-Some-clause-proof
returns-in-Some-clause-proof g c =
    let chain = chain_at g.Z.HeldZone.zone c.args.chain.now in
    first_gives _ (answer_by_wildcard chain.held chain.moment chain.apex c.args.qtype (asterisk ∷ c.args.encloser.now) (Nsec3 c.args.covering.nsec3.now ∷ [])) _ c.in-Some.proof
    c.requires.covered.says
    (sym (λ k. answer_by_wildcard chain.held chain.moment chain.apex c.args.qtype (c.wildcard_below-source.ensures k) (c.nsec3-denials.ensures k))
    ∙ sym c.answer_by_wildcard.ensures ∙ c.in-Some.is)

pub returns-clause-proof : goal.returns-clause-proof
returns-clause-proof g c =
    let chain = chain_at g.Z.HeldZone.zone c.args.chain.now in
    c.denial_below-proof.ensures
    ∙ second_of _ (answer_by_wildcard chain.held chain.moment chain.apex c.args.qtype (asterisk ∷ c.args.encloser.now) (Nsec3 c.args.covering.nsec3.now ∷ [])) _
    c.requires.covered.says
    (sym (λ k. answer_by_wildcard chain.held chain.moment chain.apex c.args.qtype (c.wildcard_below-source.ensures k) (c.nsec3-denials.ensures k))
    ∙ sym c.answer_by_wildcard.ensures ∙ c.in_default.is)
