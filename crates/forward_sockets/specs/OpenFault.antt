-- Why sockets can't be opened.
use Rattle.std.specs.Prelude.{List, Contains}
use Rattle.std.specs.declared.net.socket_addr.SocketAddr.{SocketAddr}
use Rattle.forward_sockets.specs.declared.open_fault.OpenFault.{OpenFault}
use Rattle.forward_sockets.specs.declared.open_fault.OpenFault.TheVariants.{Poll, Address, OutOfMemory}

-- where an address is at fault, it is one of these
abbrev pub IsFaultOf : List SocketAddr → OpenFault → Type 0
IsFaultOf addresses (Poll cause) = Unit {0}
IsFaultOf addresses (Address address carrier cause) = Contains addresses address
IsFaultOf addresses OutOfMemory = Unit {0}
