use Rattle.resolver.specs.Caches.{IsSeatOf}
use Rattle.stream_server_tests.proofs.pieces.cut_anywhere.Given as goal

abbrev pub invariant-loop-cut : goal.invariant-loop-cut
invariant-loop-cut g l = IsSeatOf l.cache l.seat
