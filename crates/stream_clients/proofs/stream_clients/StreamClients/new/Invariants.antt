use Rattle.std.proofs.Common.{◌≡◌, replicate}
use Rattle.stream_clients.specs.Places.{unused}
use Rattle.stream_clients.proofs.stream_clients.StreamClients.new.Given as goal

abbrev pub invariant-loop : goal.invariant-loop
invariant-loop l = l.places.items ≡ replicate l.counter unused
