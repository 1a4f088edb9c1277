use Rattle.std.proofs.Common.{◌≡◌, ◌++◌, take}
use Rattle.denial_records.proofs.pieces.push_all.Given as goal

abbrev pub invariant-loop-item : goal.invariant-loop-item
invariant-loop-item l = l.pack ≡ l.initial.pack ++ take l.item-index l.items
