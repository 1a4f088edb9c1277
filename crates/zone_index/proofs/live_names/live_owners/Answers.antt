use Rattle.std.proofs.Common.{◌+◌, sym, ap, subst, ◌∙◌}
use Rattle.zone_index.specs.declared.entry.Entry.{Entry}
use Rattle.zone_index.proofs.LiveLemmas.{HasMet, met_all, met_push, met_again}
use Rattle.zone_index.proofs.live_names.live_owners.Goals as goal
use Rattle.zone_index.proofs.live_names.live_owners.Goals.{then-is_new+in_ok-push, else-is_new}

pub returns : goal.returns
returns c = met_all c.args.zone.now c.args.zone.now.apex c.entries-entries.result.now c.loop-at.at c.loop-at.names.items c.entries-entries.ensures.records c.loop-at.invariant (search)

pub loop-at-preserved : goal.loop-at-preserved
loop-at-preserved c = elim c.if-is_new.branch [
  | then-is_new+in_ok-push w ↦
      subst (λ v. HasMet c.args.zone.now c.entries-entries.result.now (c.loop-at.at + 1) v.items) (sym w.names-is)
      (met_push c.args.zone.now c.entries-entries.result.now c.loop-at.at c.loop-at.names.items _ w.index-entries-at.result w.lent.result c.loop-at.invariant c.loop-at-test.true w.in_ok-push.ensures.items w.index-entries-at.is (w.lent.ensures ∙ w.name.ensures ∙ sym (ap (λ (x : Entry). x.owner) w.index-entries-at.is)) (c.is_new.ensures.live w.if-is_new.true))
  | else-is_new w ↦
      subst (λ v. HasMet c.args.zone.now c.entries-entries.result.now (c.loop-at.at + 1) v.items) (sym w.names-is)
      (met_again c.args.zone.now c.entries-entries.result.now c.loop-at.at c.loop-at.names.items c.loop-at.invariant (c.is_new.ensures.met w.if-is_new.false))
]
