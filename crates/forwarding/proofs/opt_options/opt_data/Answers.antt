use Rattle.std.proofs.Common.{length, ◌∙◌, sym, ap}
use Rattle.forwarding.proofs.OptLemmas.{data_of_root, other_type, other_owner}
use Rattle.forwarding.proofs.opt_options.opt_data.Goals as goal
use Rattle.forwarding.proofs.opt_options.opt_data.Goals.{else-rr-eq-OPT_TYPE-via-then-rr-eq-OPT_TYPE+else-labels-eq0, else-rr-eq-OPT_TYPE-via-else-rr-eq-OPT_TYPE}

pub returns-then-labels-eq0 : goal.returns-then-labels-eq0
returns-then-labels-eq0 c =
    let within = rw c.as_slice-rr-items.ensures at c.loop-rr-test.true in
    let is = rw c.as_slice-rr-items.ensures at c.rr-item.is in
    c.as_slice.ensures ∙ sym (data_of_root c.args.additional.now c.loop-rr.rr-index c.rr-item.result within is c.if-rr-eq-OPT_TYPE.true (ap length (sym c.name.ensures) ∙ sym c.labels.ensures.value ∙ c.if-labels-eq0.true)) ∙ c.loop-rr.invariant

pub loop-rr-preserved : goal.loop-rr-preserved
loop-rr-preserved c =
    let within = rw c.as_slice-rr-items.ensures at c.loop-rr-test.true in
    let is = rw c.as_slice-rr-items.ensures at c.rr-item.is in
    elim c.else-rr-eq-OPT_TYPE.branch [
      | else-rr-eq-OPT_TYPE-via-then-rr-eq-OPT_TYPE+else-labels-eq0 w ↦ sym (other_owner c.args.additional.now c.loop-rr.rr-index c.rr-item.result within is (λ none. w.if-labels-eq0.false (w.labels.ensures.value ∙ ap length w.name.ensures ∙ none))) ∙ c.loop-rr.invariant
      | else-rr-eq-OPT_TYPE-via-else-rr-eq-OPT_TYPE w ↦ sym (other_type c.args.additional.now c.loop-rr.rr-index c.rr-item.result within is w.if-rr-eq-OPT_TYPE.false) ∙ c.loop-rr.invariant
    ]
