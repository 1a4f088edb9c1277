-- Datagrams.
use Rattle.std.specs.Prelude.{ℕ, List}
use Rattle.outside_core.specs.declared.datagram.Datagram.{Datagram}
use Rattle.outside_core.specs.declared.datagram.Peer.{Peer}
use Rattle.outside_core.specs.declared.datagram.Peer.TheVariants.{Client, Upstream}

-- the datagram of a peer with these octets
abbrev pub datagram_of : Peer → List ℕ → Datagram
datagram_of peer octets = record { peer = peer; octets = octets }

-- a client, not the upstream resolver
abbrev pub IsClient : Peer → Type 0
IsClient (Client number) = Unit {0}
IsClient Upstream = ⊥
