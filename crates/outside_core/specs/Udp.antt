-- What shows of the adapters over std's network and clock.
use Rattle.std.specs.Prelude.{ℕ, ◌+◌, ◌*◌, ◌^◌, ◌==◌, ◌&&◌, if◌then◌else◌, List, Option, Some, None}
use Rattle.std.specs.Net.Addr.{ipv4_bits}
use Rattle.std.specs.Net.Socket.{v4_ip, v4_port}
use Rattle.std.specs.declared.net.socket_addr.SocketAddrV4.{SocketAddrV4}
use Rattle.outside_core.specs.declared.datagram.Peer.{Peer}
use Rattle.outside_core.specs.declared.datagram.Peer.TheVariants.{Client, Upstream}
use Rattle.outside_core.specs.declared.udp.UdpHarbor.{UdpHarbor}
use Rattle.outside_core.specs.declared.udp.UdpLink.{UdpLink}

-- 127.0.0.1, as a number of 32 bits
abbrev pub loopback_bits : ℕ
loopback_bits = 127 * 2 ^ 24 + 1

-- the number of a client: its IPv4 address, and then 16 bits of its port
abbrev pub client_number : SocketAddrV4 → ℕ
client_number address = ipv4_bits (v4_ip address) * 65536 + v4_port address

-- the peer at an address: the upstream resolver is on 127.0.0.1, at its port
abbrev pub peer_at : ℕ → SocketAddrV4 → Peer
peer_at upstream address =
    if ipv4_bits (v4_ip address) == loopback_bits && v4_port address == upstream
    then Upstream
    else Client (client_number address)

-- the number of a peer: a client's own, and for the upstream resolver that of its address
abbrev pub peer_number : ℕ → Peer → ℕ
peer_number upstream Upstream = loopback_bits * 65536 + upstream
peer_number upstream (Client number) = number

-- how often a bind has failed, or a link came back with faults
abbrev pub harbor_faults : {N : Type 0} → UdpHarbor N → ℕ
harbor_faults harbor = harbor.faults

-- the port of a link, that of its upstream resolver, and how often a call has failed
abbrev pub link_port : UdpLink → ℕ
link_port link = link.port

abbrev pub link_upstream : UdpLink → ℕ
link_upstream link = link.upstream

abbrev pub link_faults : UdpLink → ℕ
link_faults link = link.faults

-- the octets of the upstream resolver's datagram that a link holds back, where it does
abbrev pub held_back : UdpLink → Option (List ℕ)
held_back link = if link.is_holding then Some link.held else None
