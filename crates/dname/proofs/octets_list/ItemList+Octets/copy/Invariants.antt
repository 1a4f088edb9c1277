use Rattle.std.proofs.Common.{◌≡◌, take}
use Rattle.dname.proofs.octets_list.ItemList+Octets.copy.Given as goal

abbrev pub invariant-loop-item : goal.invariant-loop-item
invariant-loop-item l = l.copy ≡ take l.item-index l.self
