use Rattle.std.proofs.Common.{◌≡◌, ◌++◌, take}
use Rattle.page_list.proofs.entries.put_onto.Given as goal

abbrev pub invariant-loop-entry : goal.invariant-loop-entry
invariant-loop-entry g l = l.onto.items ≡ l.initial.onto.items ++ take l.entry-index l.from
