use Rattle.std.proofs.Common.{◌≡◌, take, false}
use Rattle.std.specs.List.{list_any}
use Rattle.resolver.specs.Lent.{denials_in}
use Rattle.resolver.specs.Origin.{is_any}
use Rattle.resolver.specs.declared.walk.Way.{Way}
use Rattle.resolver.proofs.origin.has_denials_before.Given as goal

abbrev pub invariant-loop-way : goal.invariant-loop-way
invariant-loop-way l = list_any (λ (way : Way). is_any (denials_in way)) (take l.way-index l.links) ≡ false
