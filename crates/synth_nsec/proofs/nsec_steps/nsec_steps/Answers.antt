use Rattle.std.proofs.Common.{◌∙◌, sym, ap, subst}
use Rattle.dname.specs.Tests.{is_under}
use Rattle.cache_meaning.specs.Evidence.{nsec_matches, deny_type}
use Rattle.cache_meaning.specs.NsecSteps.{nsec_steps}
use Rattle.synth_nsec.specs.NsecEvidence.{record_of, Says}
use Rattle.synth_nsec.specs.declared.nsec_evidence.NsecEvidence.{NsecEvidence}
use Rattle.synth_nsec.proofs.StepLemmas.{at_cover}
use Rattle.synth_nsec.proofs.nsec_steps.nsec_steps.Goals as goal

pub returns-in-Covers : goal.returns-in-Covers
returns-in-Covers g c =
    let zone = g.Z.HeldZone.zone c.args.zone.now in
    let covering = c.in-Covers.nsec.now in
    let name = c.args.name.now in
    c.by_cover.ensures ∙ at_cover (nsec_matches covering name) (is_under covering.next name) (deny_type covering.types zone.apex name c.args.qtype) _ _ _ (subst (Says name) c.in-Covers.is c.requires).1
    ∙ ap (λ (e : NsecEvidence). nsec_steps zone.held c.args.now zone.apex name c.args.qtype (record_of e)) (sym c.in-Covers.is)
