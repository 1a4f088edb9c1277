use Rattle.std.proofs.Common.{ap, map}
use Rattle.std.specs.Arc.{arc_value}
use Rattle.std.proofs.lemmas.Result.{IfOk-weaker}
use Rattle.page_list.proofs.Rows.{spliced_whole, clean_whole}
use Rattle.page_list.proofs.splice.spliced_row.Goals as goal

pub returns : goal.returns
returns g c =
    IfOk-weaker c.shared_round-2.result _ _ (λ all e.
    spliced_whole g.B.Block.entries c.args.left.now c.args.right.now _ _ _ _ _ _ _ _ _ _ _ _ _ _ c.block-first.result.now c.block-last.result.now c.first_seam-p.ensures c.seam-q.ensures c.block-first.ensures c.block-last.ensures c.in_ok-made.ensures c.in_ok-made-2.ensures.same c.slots_before.ensures c.slots_after.ensures e)
    c.shared_round-2.ensures

pub returns-then-is_clean_cut : goal.returns-then-is_clean_cut
returns-then-is_clean_cut g c =
    let no_items = rw c.as_slice.ensures.value at c.is_clean_cut.ensures.none c.if-is_clean_cut.true in
    IfOk-weaker c.shared_round.result _ _ (λ all e.
    clean_whole g.B.Block.entries c.args.left.now c.args.right.now _ _ _ _ _ _ _ _ _ _ _ c.block-first.result.now c.first_seam-p.ensures c.seam-q.ensures c.block-first.ensures no_items (ap (map arc_value) c.new.ensures.items) (c.is_clean_cut.ensures.whole_first c.if-is_clean_cut.true) (c.is_clean_cut.ensures.whole_last c.if-is_clean_cut.true) c.slots_through.ensures c.slots_from.ensures e)
    c.shared_round.ensures
