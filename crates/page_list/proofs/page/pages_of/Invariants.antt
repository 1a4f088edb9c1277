use Rattle.std.proofs.Common.{◌≡◌, ◌++◌, map}
use Rattle.std.specs.Arc.{arc_value}
use Rattle.std.specs.List.{flat_map}
use Rattle.page_list.proofs.page.pages_of.Given as goal

abbrev pub invariant-loop-entries : goal.invariant-loop-entries
invariant-loop-entries g l =
    flat_map (λ page. page) (map arc_value l.pages.items) ++ flat_map (λ part. part) l.entries-iterator.rest.items
    ≡ l.fn.entries.items
