use Rattle.std.proofs.Common.{◌≡◌, take}
use Rattle.std.specs.Prelude.{fold, min}
use Rattle.resolver.specs.Lent.{told_by_way}
use Rattle.resolver.specs.declared.walk.Way.{Way}
use Rattle.resolver.proofs.walking.least_ttl.Given as goal

abbrev pub invariant-loop-way : goal.invariant-loop-way
invariant-loop-way l = l.least ≡ fold (λ ttl (way : Way). min ttl (told_by_way l.now way)) l.last (take l.way-index l.links)
