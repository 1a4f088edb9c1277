-- No public clause cites this module. Places for replies by datagrams and by streams.
use Rattle.std.specs.Prelude.{ℕ, List}
use Rattle.arrivals.specs.declared.carrier.Carrier.{Carrier}
use Rattle.arrivals.specs.declared.carrier.Carrier.TheVariants.{Datagram, Stream}
use Rattle.forwarding.specs.declared.buffers.Buffers.{Buffers}

-- the octets of the reply that goes by the carrier
abbrev pub octets_in : Buffers → Carrier → List ℕ
octets_in buffers Datagram = buffers.datagram
octets_in buffers Stream = buffers.stream
