use Rattle.std.proofs.Common.{◌+◌, arith, sym}
use Rattle.page_list.specs.Marks.{mark_of}
use Rattle.std.specs.List.{flat_map}
use Rattle.std.proofs.lemmas.Option.{IfSome_then}
use Rattle.page_list.specs.Search.{IsTestAt}
use Rattle.page_list.proofs.Marks.{parts_within}
use Rattle.page_list.proofs.Rows.{length_along, length_more}
use Rattle.page_list.proofs.Search.{found_within, last_within}
use Rattle.page_list.proofs.Slots.{shelf_end}
use Rattle.page_list.proofs.row.Row.find_at.Goals as goal

pub overflow_sub-len : goal.overflow_sub-len
overflow_sub-len g c =
    omega (
      arith,
      c.start-start.ensures,
      length_along g.B.Block.entries c.args.self.now c.block_to_search_at-p.result (c.block_to_search_at-p.result + 1) (omega arith),
      shelf_end mark_of g.B.Block.entries c.self.inside.slots.items c.args.self.now c.block_to_search_at-p.result c.end.result c.index.result.now c.self.view_is c.self.invariant c.block_to_search_at-p.ensures.in_range c.index.ensures c.end.ensures,
    )

pub find_at-found-requires-clause-len : goal.find_at-found-requires-clause-len
find_at-found-requires-clause-len g c =
    omega (
      arith,
      c.start-start.ensures,
      length_more g.B.Block.entries c.args.self.now c.block_to_search_at-p.result c.block.result.now c.block_to_search_at-p.ensures.in_range (sym c.block.ensures),
      shelf_end mark_of g.B.Block.entries c.self.inside.slots.items c.args.self.now c.block_to_search_at-p.result c.end.result c.index.result.now c.self.view_is c.self.invariant c.block_to_search_at-p.ensures.in_range c.index.ensures c.end.ensures,
    )

pub returns-clause-exact : goal.returns-clause-exact
returns-clause-exact g c = λ p test parts.
    found_within g.B.Block.entries c.args.self.now (IsTestAt g.F.Fn c.args.before.now c.args.mark (flat_map g.B.Block.entries c.args.self.now)) c.block_to_search_at-p.result c.start-start.result c.find_at-found.result.count c.block.result.now c.block_to_search_at-p.ensures.in_range c.block.ensures c.start-start.ensures (rw c.start-start.ensures c.block_to_search_at-p.ensures.narrowed) c.find_at-found.ensures.in_range
    (λ q tested parted. c.find_at-found.ensures.exact q tested.answers (parts_within mark_of c.args.mark q g.B.Block.entries c.args.self.now _ c.block.result.now c.block_to_search_at-p.ensures.in_range c.block.ensures tested.parts parted))
    p (record { answers = test; parts = parts }) parts.first

pub returns-clause-last : goal.returns-clause-last
returns-clause-last g c =
    IfSome_then c.find_at-found.result.last c.find_at-found.ensures.last (λ x is.
    last_within g.B.Block.entries c.args.self.now c.block_to_search_at-p.result c.start-start.result c.find_at-found.result.count c.block.result.now x.now c.block_to_search_at-p.ensures.in_range c.block.ensures c.start-start.ensures c.find_at-found.ensures.in_range is)
