-- Whether a reply is put behind the others.
use Rattle.std.specs.Prelude.{ℕ, ◌+◌, ◌<◌, ◌≤◌, List, length, Option, Some, None, Result, Ok, Err, IsOk}
use Rattle.stream_clients.specs.declared.output.TheConstants.{MOST_OUTPUT}
use Rattle.stream_clients.specs.declared.reply_fault.ReplyFault.{ReplyFault}
use Rattle.stream_clients.specs.declared.reply_fault.ReplyFault.TheVariants as fault
use Rattle.stream_clients.specs.Connection.{Connection}

-- it is told to be too much exactly where that is so
abbrev pub IsRepliedTo : List ℕ → List ℕ → Result (Unit {0}) ReplyFault → Type 0
IsRepliedTo reply output (Ok done) = length output + (2 + length reply) ≤ MOST_OUTPUT
IsRepliedTo reply output (Err fault.Full) = MOST_OUTPUT < length output + (2 + length reply)
IsRepliedTo reply output (Err fault.OutOfMemory) = length output + (2 + length reply) ≤ MOST_OUTPUT

-- the same of a client's connection; where it isn't open nothing is put, and there is no fault
abbrev pub IsReplied : List ℕ → Option Connection → Result (Unit {0}) ReplyFault → Type 0
IsReplied reply None result = IsOk result
IsReplied reply (Some c) result = IsRepliedTo reply c.output result
