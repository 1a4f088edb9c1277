use Rattle.std.proofs.Common.{◌∙◌, sym, ap, not, arith}
use Rattle.std.specs.Arc.{arc_value}
use Rattle.denial_records.specs.declared.record.Record.{Record}
use Rattle.cache_meaning.specs.Held.{goes}
use Rattle.cache_meaning.specs.Views.{shared_records}
use Rattle.cache_meaning.proofs.HeldLemmas.{kept_one_more, passed_over}
use Rattle.cache_meaning.proofs.held_records.records_within_limit.Goals as goal

pub loop-item-preserved-then-goes : goal.loop-item-preserved-then-goes
loop-item-preserved-then-goes c =
    let records = shared_records c.args.records.now in
    let item = c.item-item.result in
    passed_over arc_value (λ (x : Record). not (goes records x)) c.args.records.now c.loop-item.kept.items _ c.loop-item.item-index item (omega arith) c.item-item.is
    (ap not (ap (goes records) (sym c.deref.ensures) ∙ sym c.goes.ensures ∙ c.if-goes.true))
    c.loop-item.invariant

pub loop-item-preserved : goal.loop-item-preserved
loop-item-preserved c =
    let records = shared_records c.args.records.now in
    let item = c.item-item.result in
    kept_one_more arc_value (λ (x : Record). not (goes records x)) c.args.records.now c.loop-item.kept.items c.push.new.self.items _ c.loop-item.item-index item c.in_ok-try_clone.field-0 (omega arith) c.item-item.is
    (ap not (ap (goes records) (sym c.deref.ensures) ∙ sym c.goes.ensures ∙ c.if-goes.false))
    c.in_ok-try_clone.ensures
    c.in_ok-push.ensures.items
    c.loop-item.invariant
