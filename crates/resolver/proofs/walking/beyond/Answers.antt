use Rattle.std.proofs.Common.{◌∙◌, ap}
use Rattle.cache_meaning.specs.Held.{Held}
use Rattle.resolver.specs.Walk.{step_of}
use Rattle.resolver.specs.Lent.{step_by}
use Rattle.resolver.proofs.StepLemmas.{zone_is}
use Rattle.resolver.proofs.WalkLemmas.{beyond_is, nothing_beyond}
use Rattle.resolver.proofs.walking.beyond.Goals as goal

pub step_of-requires : goal.step_of-requires
step_of-requires c = (zone_is c.args.store.now c.args.name.now c.args.qtype c.args.zone.now c.requires).1

pub returns-in_err-step-clause-walk : goal.returns-in_err-step-clause-walk
returns-in_err-step-clause-walk c =
    let same = (zone_is c.args.store.now c.args.name.now c.args.qtype c.args.zone.now c.requires).0 in
    rw c.from_residual.ensures (nothing_beyond c.args.rule c.args.store.now c.args.now c.args.qtype c.args.name.now
    (c.in_err-step.ensures.step ∙ ap (λ (held : Held). step_of c.args.rule held c.args.now c.args.qtype c.args.name.now) same))

pub returns-clause-walk : goal.returns-clause-walk
returns-clause-walk c =
    let same = (zone_is c.args.store.now c.args.name.now c.args.qtype c.args.zone.now c.requires).0 in
    beyond_is c.args.rule c.args.store.now c.args.now c.args.qtype c.args.name.now (step_by c.args.name.now c.in_ok-step.step) c.taken.result
    (c.in_ok-step.ensures.step ∙ ap (λ (held : Held). step_of c.args.rule held c.args.now c.args.qtype c.args.name.now) same)
    c.taken.ensures.walk
