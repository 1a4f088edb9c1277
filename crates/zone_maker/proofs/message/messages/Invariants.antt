use Rattle.std.proofs.Common.{◌≡◌, map}
use Rattle.std.specs.List.{range_with_len}
use Rattle.zone_maker.specs.Messages.{message_at}
use Rattle.zone_maker.proofs.message.messages.Given as goal

abbrev pub invariant-loop-k : goal.invariant-loop-k
invariant-loop-k l = l.messages ≡ map (message_at l.seed l.names) (range_with_len 0 l.k)
