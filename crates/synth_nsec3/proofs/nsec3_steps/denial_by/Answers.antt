use Rattle.std.proofs.Common.{◌∙◌, sym, ap, subst}
use Rattle.std.specs.Option.{option_or}
use Rattle.denial_records.specs.declared.verdict.Kind.TheVariants.{NxDomain}
use Rattle.cache_meaning.specs.Evidence.{nsec3_matches, deny_type_below}
use Rattle.cache_meaning.specs.NsecSteps as nsec
use Rattle.cache_meaning.specs.Nsec3Steps.{no_data_by_wildcard, name_error}
use Rattle.synth_nsec3.specs.ChainAt.{chain_at}
use Rattle.synth_nsec3.specs.Nsec3Evidence.{record_of, Says}
use Rattle.synth_nsec3.specs.declared.nsec3_evidence.Nsec3Evidence.{Nsec3Evidence}
use Rattle.synth_nsec3.proofs.StepLemmas.{at_cover}
use Rattle.synth_nsec3.proofs.nsec3_steps.denial_by.Goals as goal

pub returns-in-Covers : goal.returns-in-Covers
returns-in-Covers g c =
    let chain = chain_at g.Z.HeldZone.zone c.args.chain.now in
    let source = c.args.source.now in
    let matching = c.args.matching.nsec3.now in
    let covering = c.args.covering.nsec3.now in
    let at_source = c.in-Covers.nsec3.now in
    c.name_error.ensures
    ∙ (λ k. nsec.denial_by chain.held chain.moment chain.apex NxDomain (c.each_once-denials.ensures k))
    ∙ at_cover (nsec3_matches chain.parameters at_source source) at_source.opt_out (deny_type_below at_source.types c.args.qtype) _ _ (subst (Says chain source) c.in-Covers.is c.requires)
    ∙ ap (λ (e : Nsec3Evidence). option_or
    (no_data_by_wildcard chain.held chain.moment chain.apex chain.parameters c.args.qtype source matching covering (record_of e))
    (name_error chain.held chain.moment chain.apex chain.parameters source matching covering (record_of e))) (sym c.in-Covers.is)
