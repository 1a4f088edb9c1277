use Rattle.resolver.specs.Walk.{walk_of}
use Rattle.resolver.specs.Lent.{step_by}
use Rattle.resolver.proofs.WalkLemmas.{walk_is, no_walk, sound_if_some}
use Rattle.resolver.proofs.walking.walk_from.Goals as goal

pub returns-in_err-step-clause-walk : goal.returns-in_err-step-clause-walk
returns-in_err-step-clause-walk c =
    rw c.from_residual.ensures (no_walk c.args.rule c.args.store.now c.args.now c.args.qtype c.args.name.now c.in_err-step.ensures.step)

pub returns-clause-walk : goal.returns-clause-walk
returns-clause-walk c =
    walk_is c.args.rule c.args.store.now c.args.now c.args.qtype c.args.name.now (step_by c.args.name.now c.in_ok-step.step) c.taken.result c.in_ok-step.ensures.step c.taken.ensures.walk

pub returns-clause-sound : goal.returns-clause-sound
returns-clause-sound c = λ ordinary.
    sound_if_some c.args.qtype c.args.name.now (walk_of c.args.rule c.args.store.now c.args.now c.args.name.now c.args.qtype) c.taken.result
    (λ walk is. c.each_walk_is_sound.ensures c.args.rule c.args.store.now c.args.now c.args.name.now c.args.qtype walk ordinary is)
    (walk_is c.args.rule c.args.store.now c.args.now c.args.qtype c.args.name.now (step_by c.args.name.now c.in_ok-step.step) c.taken.result c.in_ok-step.ensures.step c.taken.ensures.walk)
