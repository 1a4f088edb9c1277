use Rattle.std.proofs.Common.{sym, ◌∙◌, ap}
use Rattle.reply_core.specs.Count.{count16}
use Rattle.reply_core.specs.Relay.{is_relayed}
use Rattle.reply_core.proofs.RelayLemmas.{one_fails, count-one_passes}
use Rattle.reply_core.proofs.relay.count_section.Goals as goal
use Rattle.reply_core.proofs.relay.count_section.Goals.{then-is_relayed, else-is_relayed}

pub loop-rr-preserved : goal.loop-rr-preserved
loop-rr-preserved c =
    let within = rw c.as_slice-rr-items.ensures at c.loop-rr-test.true in
    let is = rw c.as_slice-rr-items.ensures at c.rr-item.is in
    let passes = is_relayed c.args.question.now in
    elim c.if-is_relayed.branch [
      | then-is_relayed w ↦ w.count-is ∙ count-one_passes passes c.args.section.now c.loop-rr.rr-index c.loop-rr.count c.rr-item.result within is (sym c.is_relayed.ensures ∙ w.if-is_relayed.true) c.loop-rr.invariant
      | else-is_relayed w ↦ w.count-is ∙ c.loop-rr.invariant ∙ ap count16 (sym (one_fails passes c.args.section.now c.loop-rr.rr-index c.rr-item.result within is (sym c.is_relayed.ensures ∙ w.if-is_relayed.false)))
    ]
