use Rattle.std.proofs.Common.{inl, inr}
use Rattle.run_audit.proofs.PairLemmas.{replies_none, replies_more, replies_all}
use Rattle.run_audit.proofs.auditing.count_replies.Goals as goal
use Rattle.run_audit.proofs.auditing.count_replies.Goals.{then-is_reply, else-is_reply}

pub loop-pair-init : goal.loop-pair-init
loop-pair-init c = replies_none _

pub loop-pair-preserved : goal.loop-pair-preserved
loop-pair-preserved c = replies_more _ _ _ _ _ c.is_reply.result c.loop-pair-test.true c.loop-pair.invariant c.is_reply.ensures
    (elim c.if-is_reply.branch [
      | then-is_reply w ↦ inl (w.if-is_reply.true, w.replies-is)
      | else-is_reply w ↦ inr (w.if-is_reply.false, w.replies-is)
    ])

pub returns : goal.returns
returns c = replies_all _ _ _ c.loop-pair.invariant c.loop-pair-test.false
