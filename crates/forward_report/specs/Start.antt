-- What is told at the start.
use Rattle.std.specs.Prelude.{ℕ, List, ◌++◌, codes, decimal}
use Rattle.std.specs.List.{flat_map}
use Rattle.std.specs.Net.Addr.{IsLoopbackV4, IsLoopbackV6, MatchIp}
use Rattle.std.specs.Net.Socket.{socket_ip}
use Rattle.std.specs.Net.Text.{socket_text}
use Rattle.std.specs.declared.net.socket_addr.SocketAddr.{SocketAddr}

abbrev pub version_text : List ℕ → List ℕ
version_text version = codes "dnsreplay " ++ version ++ codes " listens at"

abbrev pub addresses_text : List SocketAddr → List ℕ
addresses_text addresses = flat_map (λ address. codes " " ++ socket_text address) addresses

abbrev pub upstream_text : SocketAddr → ℕ → List ℕ
upstream_text upstream workers =
    codes ", asks " ++ socket_text upstream ++ codes ", workers: " ++ decimal workers ++ codes "\n"

abbrev pub start_line : List ℕ → List SocketAddr → SocketAddr → ℕ → List ℕ
start_line version listening upstream workers =
    version_text version ++ addresses_text listening ++ upstream_text upstream workers

-- what comes from there can have been changed on the way
abbrev pub warning_line : SocketAddr → List ℕ
warning_line upstream =
    codes "dnsreplay: warning: " ++ socket_text upstream
    ++ codes " is not a loopback address, and nobody signs for AD on the way\n"

abbrev pub IsLoopback : SocketAddr → Type 0
IsLoopback address = MatchIp (socket_ip address) IsLoopbackV4 IsLoopbackV6
