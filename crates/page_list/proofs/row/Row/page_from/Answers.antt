use Rattle.std.proofs.Common.{refl}
use Rattle.page_list.proofs.Rows.{page_at}
use Rattle.page_list.proofs.row.Row.page_from.Goals as goal

pub returns-clause-entries : goal.returns-clause-entries
returns-clause-entries g c =
    page_at g.B.Block.entries c.args.self.now _ _ _ _ c.block.result.now _ c.place-p.ensures c.block.ensures c.page_from.ensures.entries refl
