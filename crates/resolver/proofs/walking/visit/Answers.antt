use Rattle.std.proofs.Common.{refl, sym}
use Rattle.std.proofs.lemmas.Bool.{false≢true}
use Rattle.cache_meaning.specs.Prove.{zone_proof}
use Rattle.cache_meaning.specs.Zones.{zone_for}
use Rattle.resolver.proofs.StepLemmas.{zone_is, no_zone, no_visit}
use Rattle.resolver.proofs.WalkLemmas.{shown, none_shown, visit_proved, visit_stepped}
use Rattle.resolver.proofs.walking.visit.Goals as goal

pub returns-in_err-zone-clause-step : goal.returns-in_err-zone-clause-step
returns-in_err-zone-clause-step c =
    let held = c.args.store.now in
    rw c.from_residual.ensures (sym (no_visit held c.args.now c.args.qtype c.args.name.now c.args.rule (no_zone held (zone_for held c.args.name.now c.args.qtype) c.in_err-zone.ensures)))

pub returns-in-Some-clause-step : goal.returns-in-Some-clause-step
returns-in-Some-clause-step c =
    let zone = c.in_ok-zone.zone in
    visit_proved c.args.rule c.args.store.now c.args.now c.args.qtype c.args.name.now zone c.in-Some.verdict c.in_ok-zone.ensures
    (shown c.args.now (zone_proof zone.held c.args.now zone.apex c.args.name.now c.args.qtype) c.in-Some.verdict c.in-Some.ensures.proved (c.in-Some.ensures.exact.0 refl))

pub returns-in-Some-clause-ttl : goal.returns-in-Some-clause-ttl
returns-in-Some-clause-ttl c =
    let zone = c.in_ok-zone.zone in
    λ name. (shown c.args.now (zone_proof zone.held c.args.now zone.apex c.args.name.now c.args.qtype) c.in-Some.verdict c.in-Some.ensures.proved (c.in-Some.ensures.exact.0 refl)).lives

pub step_of-requires : goal.step_of-requires
step_of-requires c = (zone_is c.args.store.now c.args.name.now c.args.qtype c.in_ok-zone.zone c.in_ok-zone.ensures).1

pub returns-clause-step : goal.returns-clause-step
returns-clause-step c =
    let zone = c.in_ok-zone.zone in
    let none = none_shown (zone_proof zone.held c.args.now zone.apex c.args.name.now c.args.qtype) (λ some. false≢true (c.in_default.ensures.exact.1 some)) in
    visit_stepped c.args.rule c.args.store.now c.args.now c.args.qtype c.args.name.now zone _ c.in_ok-zone.ensures none c.step_of.ensures.step
