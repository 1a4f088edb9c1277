use Rattle.page_list.proofs.Search.{found_within}
use Rattle.page_list.proofs.row.Row.find.Goals as goal

pub returns-clause-exact : goal.returns-clause-exact
returns-clause-exact g c =
    found_within g.B.Block.entries c.args.self.now _ _ _ _ c.block.result.now c.block_to_search-p.ensures.in_range c.block.ensures c.start.ensures (rw c.start.ensures c.block_to_search-p.ensures.narrowed) c.find.ensures.in_range c.find.ensures.exact
