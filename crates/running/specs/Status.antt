-- The numbers with which the program ends.
use Rattle.std.specs.Prelude.{ℕ}
use Rattle.running.specs.declared.status.Status.{Status}
use Rattle.running.specs.declared.status.Status.TheVariants.{Good, Usage, ReadFault, BadFrame, WriteFault, OutOfMemory, InputTooLong, HarborFault, GatewayFault, ListenFault, ThreadFault}

abbrev pub status_number : Status → ℕ
status_number Good = 0
status_number Usage = 2
status_number ReadFault = 3
status_number BadFrame = 4
status_number WriteFault = 5
status_number OutOfMemory = 6
status_number InputTooLong = 7
status_number HarborFault = 8
status_number GatewayFault = 8
status_number ListenFault = 8
status_number ThreadFault = 6
