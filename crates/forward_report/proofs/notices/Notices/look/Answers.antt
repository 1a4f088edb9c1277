use Rattle.forward_report.proofs.LookLemmas.{all_kept, all_noticed, all_told, none_looked_at, one_looked_at}
use Rattle.forward_report.proofs.notices.Notices.look.Goals as goal

pub loop-call-init : goal.loop-call-init
loop-call-init c = rw (← c.self.view_is) (none_looked_at _ _ _ c.self.invariant)

pub loop-call-preserved : goal.loop-call-preserved
loop-call-preserved c =
    one_looked_at _ _ _ (rw (← c.self.view_is) c.self.invariant) _ _ _ _ _ _ _ _ c.loop-call-test.true c.loop-call.invariant c.place-place.ensures.value c.failures-failures.ensures c.notice.ensures c.after.ensures

pub returns-clause-notices : goal.returns-clause-notices
returns-clause-notices c =
    all_noticed _ _ _ (rw (← c.self.view_is) c.self.invariant) _ _ _ _ _ _ _ c.loop-call-test.false c.loop-call.auto.call-index-end c.loop-call.invariant c.answers-answers.ensures c.counted-late.ensures c.notice-2.ensures

pub returns-clause-after : goal.returns-clause-after
returns-clause-after c =
    all_kept _ _ _ (rw (← c.self.view_is) c.self.invariant) _ _ _ _ _ _ _ c.loop-call-test.false c.loop-call.auto.call-index-end c.loop-call.invariant c.answers-answers.ensures c.counted-late.ensures c.after-self-inside.ensures

pub invariant_of-self : goal.invariant_of-self
invariant_of-self c = all_told _ _ _ (rw (← c.self.view_is) c.self.invariant) _ _ _ _ c.loop-call-test.false c.loop-call.auto.call-index-end c.loop-call.invariant
