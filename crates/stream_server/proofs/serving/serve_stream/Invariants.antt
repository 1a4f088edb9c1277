use Rattle.std.proofs.Common.{◌≡◌, ◌≤◌, ◌+◌, ◌-◌}
use Rattle.cache_versions.specs.Seats.{seen_by}
use Rattle.resolver.specs.Caches.{HasOnlyRead}
use Rattle.stream_server.specs.declared.serving.TheConstants.{MOST_OCTETS}
use Rattle.stream_server.proofs.StreamLemmas.{UnderWay}
use Rattle.stream_server.proofs.serving.serve_stream.Given as goal

abbrev pub invariant-loop-read : goal.invariant-loop-read
invariant-loop-read g l =
    let source = g.S.Source in
    let written = g.K.Sink.written in
    record {
      few : l.read ≤ MOST_OCTETS + 1;
      has_read : HasOnlyRead l.cache l.initial.seat l.seat;
      under_way : UnderWay l.read (g.C.Clock.moment l.clock) (seen_by l.initial.seat) (seen_by l.seat) (source.taken l.initial.source) (source.taken l.source) (source.left l.initial.source) (source.left l.source) (written l.initial.sink) (written l.sink) l.front;
      source_faults : source.faults l.source ≡ source.faults l.initial.source;
      sink_faults : g.K.Sink.faults l.sink ≡ g.K.Sink.faults l.initial.sink;
    }

abbrev pub decreases-loop-read : goal.decreases-loop-read
decreases-loop-read g l = MOST_OCTETS + 1 - l.read
