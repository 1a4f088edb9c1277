use Rattle.cache_versions.specs.Shares.{IsOf}
use Rattle.cache_versions.proofs.tests.threads.work.Given as goal

abbrev pub invariant-loop : goal.invariant-loop
invariant-loop g l = IsOf l.shared l.seat
