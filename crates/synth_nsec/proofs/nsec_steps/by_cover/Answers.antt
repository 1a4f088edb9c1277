use Rattle.std.proofs.Common.{◌∙◌, sym, ap, List, [], ◌∷◌}
use Rattle.dname.specs.Name.{Label}
use Rattle.denial_records.specs.declared.record.Record.TheVariants.{Nsec}
use Rattle.cache_meaning.specs.NsecSteps.{source_of, answer_by_wildcard, denial_at_source}
use Rattle.cache_meaning.proofs.StepLemmas.{first_gives, second_of}
use Rattle.synth_nsec.proofs.nsec_steps.by_cover.Goals as goal

pub returns-in-Some : goal.returns-in-Some
returns-in-Some g c =
    let zone = g.Z.HeldZone.zone c.args.zone.now in
    let covering = c.args.covering.nsec.now in
    first_gives _ (answer_by_wildcard zone.held c.args.now zone.apex c.args.qtype (source_of covering c.args.name.now) (Nsec covering ∷ [])) _ c.in-Some.proof
    c.requires.covered
    (sym (λ k. answer_by_wildcard zone.held c.args.now zone.apex c.args.qtype (c.source_of-source.ensures k) (c.nsec-denials.ensures k)) ∙ sym c.answer_by_wildcard.ensures ∙ c.in-Some.is)

pub returns : goal.returns
returns g c =
    let zone = g.Z.HeldZone.zone c.args.zone.now in
    let covering = c.args.covering.nsec.now in
    let last = λ (source : List Label). denial_at_source zone.held c.args.now zone.apex c.args.qtype source covering in
    c.denial_at_source.ensures ∙ ap last c.source_of-source.ensures
    ∙ second_of _ (answer_by_wildcard zone.held c.args.now zone.apex c.args.qtype (source_of covering c.args.name.now) (Nsec covering ∷ [])) _
    c.requires.covered
    (sym (λ k. answer_by_wildcard zone.held c.args.now zone.apex c.args.qtype (c.source_of-source.ensures k) (c.nsec-denials.ensures k)) ∙ sym c.answer_by_wildcard.ensures ∙ c.in_default.is)
