use Rattle.std.specs.List.{All}
use Rattle.gateway.specs.MemoryGateway.{IsFresh}
use Rattle.running_tests.proofs.connections.connections_of.Given as goal

abbrev pub invariant-loop-stream : goal.invariant-loop-stream
invariant-loop-stream l = All IsFresh l.all.items
