use Rattle.std.proofs.Common.{◌≡◌, None}
use Rattle.resolver.specs.Dname.{topmost_dname}
use Rattle.resolver.proofs.SearchLemmas.{last_labels}
use Rattle.resolver.proofs.search.topmost_dname.Given as goal

abbrev pub invariant-loop-labels : goal.invariant-loop-labels
invariant-loop-labels l = topmost_dname l.zone.held l.now l.zone.apex (last_labels l.labels l.name) ≡ None
