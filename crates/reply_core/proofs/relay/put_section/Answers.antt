use Rattle.std.proofs.Common.{sym, ◌∙◌}
use Rattle.reply_core.specs.Relay.{is_relayed}
use Rattle.reply_core.proofs.DraftLemmas.{put-nil}
use Rattle.reply_core.proofs.RelayLemmas.{put-one_passes, put-one_fails, put-stopped_among}
use Rattle.reply_core.proofs.relay.put_section.Goals as goal
use Rattle.reply_core.proofs.relay.put_section.Goals.{then-is_relayed, else-is_relayed}

pub loop-rr-init : goal.loop-rr-init
loop-rr-init g c = sym (put-nil c.args.draft.now)

pub loop-rr-preserved : goal.loop-rr-preserved
loop-rr-preserved g c =
    let within = rw c.as_slice-rr-items.ensures at c.loop-rr-test.true in
    let is = rw c.as_slice-rr-items.ensures at c.rr-item.is in
    let passes = is_relayed c.args.question.now in
    elim c.if-is_relayed.branch [
      | then-is_relayed w ↦ w.draft-is ∙ put-one_passes passes c.args.section.now c.loop-rr.rr-index c.rr-item.result c.args.draft.now c.loop-rr.draft w.put_rr.new.draft within is (sym c.is_relayed.ensures ∙ w.if-is_relayed.true) c.loop-rr.invariant w.put_rr.ensures
      | else-is_relayed w ↦ w.draft-is ∙ put-one_fails passes c.args.section.now c.loop-rr.rr-index c.rr-item.result c.args.draft.now c.loop-rr.draft within is (sym c.is_relayed.ensures ∙ w.if-is_relayed.false) c.loop-rr.invariant
    ]

pub returns-then-is_over : goal.returns-then-is_over
returns-then-is_over g c =
    put-stopped_among (is_relayed c.args.question.now) c.args.section.now c.loop-rr.rr-index c.args.draft.now c.loop-rr.draft c.loop-rr.invariant (sym c.is_over.ensures ∙ c.if-is_over.true)
