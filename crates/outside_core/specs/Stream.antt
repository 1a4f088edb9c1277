-- What shows of the adapters over std's streams.
use Rattle.std.specs.Prelude.{ℕ, if◌then◌else◌, List, Option, None}
use Rattle.std.specs.declared.io.traits.Read
use Rattle.std.specs.declared.io.traits.Write
use Rattle.outside_core.specs.declared.stream.StreamSource.{StreamSource}
use Rattle.outside_core.specs.declared.stream.StreamSink.{StreamSink}

-- the stream that a source reads
abbrev pub source_stream : {R : Type 0} {known : Read.Ghosts R} → StreamSource R known → R
source_stream source = source.stream

-- how often a call of the source has failed
abbrev pub source_faults : {R : Type 0} {known : Read.Ghosts R} → StreamSource R known → ℕ
source_faults source = source.faults

-- the octets that the source has left, where it tells them: those that the stream has
abbrev pub source_left : {R : Type 0} {known : Read.Ghosts R} → StreamSource R known → Option (List ℕ)
source_left {R} {known} source = if source.tells then known.remaining source.stream else None

-- the stream that a sink writes
abbrev pub sink_stream : {W : Type 0} {known : Write.Ghosts W} → StreamSink W known → W
sink_stream sink = sink.stream

-- how often a call of the sink has failed
abbrev pub sink_faults : {W : Type 0} {known : Write.Ghosts W} → StreamSink W known → ℕ
sink_faults sink = sink.faults

-- the octets written, where the sink tells them: those that the stream holds
abbrev pub sink_written : {W : Type 0} {known : Write.Ghosts W} → StreamSink W known → Option (List ℕ)
sink_written {W} {known} sink = if sink.tells then known.contents sink.stream else None
