-- The calls of the system that can fail, and how often each has failed.
use Rattle.std.specs.Prelude.{ℕ, List, get_or, replicate}
use Rattle.forward_report.specs.declared.call.Call.{Call}
use Rattle.forward_report.specs.declared.call.Call.TheVariants as calls
use Rattle.forward_report.specs.declared.call.TheConstants.{CALLS}

-- a call's place among all
abbrev pub place_of : Call → ℕ
place_of calls.Wait = 0
place_of calls.ReceiveQuery = 1
place_of calls.ReceiveAnswer = 2
place_of calls.Reply = 3
place_of calls.Socket = 4
place_of calls.Bind = 5
place_of calls.Connect = 6
place_of calls.Watch = 7
place_of calls.Send = 8
place_of calls.Accept = 9
place_of calls.ConnectStream = 10
place_of calls.ReadStream = 11
place_of calls.WriteStream = 12

-- ---- all numbers of failures, each at its call's place

abbrev pub no_failures : List ℕ
no_failures = replicate CALLS 0

abbrev pub failures_in : List ℕ → Call → ℕ
failures_in faults call = get_or faults (place_of call) 0
