use Rattle.std.proofs.Common.{◌≡◌, take, false}
use Rattle.std.specs.List.{list_any}
use Rattle.resolver.specs.WalkReply.{same_set}
use Rattle.resolver.specs.Lent.{dnames_by}
use Rattle.resolver.proofs.once.go_by.Given as goal

abbrev pub invariant-loop-way : goal.invariant-loop-way
invariant-loop-way l = list_any (λ each. same_set each l.set) (dnames_by (take l.way-index l.links)) ≡ false
