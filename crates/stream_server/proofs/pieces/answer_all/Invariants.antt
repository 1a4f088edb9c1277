use Rattle.std.proofs.Common.{◌≡◌, length}
use Rattle.cache_versions.specs.Seats.{seen_by}
use Rattle.resolver.specs.Caches.{HasOnlyRead}
use Rattle.stream_server.proofs.PieceLemmas.{SoFar}
use Rattle.stream_server.proofs.pieces.answer_all.Given as goal

abbrev pub invariant-loop-message : goal.invariant-loop-message
invariant-loop-message g l = record {
  read : HasOnlyRead l.cache l.initial.seat l.seat;
  so_far : SoFar l.now (seen_by l.initial.seat) (seen_by l.seat) l.octets l.rest (g.K.Sink.written l.initial.sink) (g.K.Sink.written l.sink);
  faults : g.K.Sink.faults l.sink ≡ g.K.Sink.faults l.initial.sink;
}

abbrev pub decreases-loop-message : goal.decreases-loop-message
decreases-loop-message g l = length l.rest
