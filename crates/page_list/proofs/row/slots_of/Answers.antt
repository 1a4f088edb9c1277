use Rattle.std.proofs.Common.{◌∙◌, ◌++◌, ap, map, sym, subst, arith, rules}
use Rattle.std.specs.Arc.{arc_value}
use Rattle.std.proofs.lemmas.List.{nil_from_length}
use Rattle.page_list.specs.Marks.{mark_of}
use Rattle.page_list.specs.Rows.{block_of}
use Rattle.page_list.proofs.Slots.{HasSlots, HasSlots-none, HasSlots-push, HasSlots-done, shelved_done, shelved_more}
use Rattle.page_list.proofs.row.slots_of.Goals as goal

pub loop-block-init : goal.loop-block-init
loop-block-init g c = record {
  shown = ap (λ z. map block_of z ++ map arc_value c.into_iter-block-iterator.result.rest.items) c.in_ok-slots.ensures.items ∙ ap (map arc_value) c.into_iter-block-iterator.ensures.into_iter_gives.0;
  has = subst (λ z. HasSlots mark_of g.B.Block.entries z 0) (sym c.in_ok-slots.ensures.items) (HasSlots-none mark_of g.B.Block.entries);
}

pub loop-block-preserved : goal.loop-block-preserved
loop-block-preserved g c = record {
  shown = shelved_more block_of arc_value c.loop-block.slots.items _ c.loop-block.block-iterator.rest.items _ _ c.in_ok-slot.slot c.in-Some.block c.in_ok-push.ensures.items (search rules) c.in_ok-slot.ensures.same c.loop-block.invariant.shown;
  has = HasSlots-push mark_of g.B.Block.entries c.loop-block.slots.items _ c.loop-block.end _ c.in_ok-slot.slot (arc_value c.in-Some.block) c.in_ok-push.ensures.items c.end-end.ensures c.in_ok-slot.ensures c.loop-block.invariant.has;
}

pub returns-clause-blocks : goal.returns-clause-blocks
returns-clause-blocks g c = shelved_done _ arc_value c.loop-block.block-iterator.rest.items _ (nil_from_length c.loop-block.block-iterator.rest.items (omega (arith, c.in-None.ensures.steps.0))) c.loop-block.invariant.shown

pub returns-clause-shelf : goal.returns-clause-shelf
returns-clause-shelf g c = HasSlots-done mark_of g.B.Block.entries _ _ c.loop-block.invariant.has
