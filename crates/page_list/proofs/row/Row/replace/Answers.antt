use Rattle.std.proofs.Common.{◌≤◌, ◌<◌, ◌∙◌, ap, get_or, length, subst, sym}
use Rattle.std.proofs.lemmas.List.{get_or-map, length-map}
use Rattle.page_list.specs.Rows.{block_of}
use Rattle.page_list.proofs.row.Row.replace.Goals as goal

pub replace_at-requires-clause-in_block : goal.replace_at-requires-clause-in_block
replace_at-requires-clause-in_block g c = λ d.
    let shown = sym c.self.view_is in
    let in_range = subst (λ n. c.in-Some.p < n) (ap length shown ∙ length-map c.self.inside.slots.items block_of) c.in-Some.ensures.last.in_range in
    subst (λ block. c.in-Some.y ≤ length (g.B.Block.entries block))
    (ap (λ blocks. get_or blocks c.in-Some.p d.block) shown ∙ get_or-map block_of c.self.inside.slots.items c.in-Some.p d d.block in_range)
    (c.in-Some.ensures.last.within d.block)
