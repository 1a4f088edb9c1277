-- No public clause cites this module. What one connection got.
use Rattle.std.specs.Prelude.{◌≡◌, ℕ, Bool, true, List, ◌∷◌, [], Option, Result, Ok, Err}
use Rattle.denial_records.specs.declared.batch.Batch.{Batch}
use Rattle.outside_core.specs.Fault.{Rose}
use Rattle.gateway.specs.Connection.{Connection}
use Rattle.stream_server.specs.declared.stream_fault.StreamFault.{StreamFault}
use Rattle.stream_server.specs.declared.stream_fault.StreamFault.TheVariants as stream
use Rattle.stream_server.specs.Served.{CameBack, IsServed, Unfailed}
use Rattle.stream_server.specs.declared.connect_fault.ConnectFault.{ConnectFault}
use Rattle.stream_server.specs.declared.connect_fault.ConnectFault.TheVariants as fault
use Rattle.stream_server.specs.declared.connection.Ended.{Ended}
use Rattle.stream_server.specs.declared.connection.Ended.TheVariants as ended

-- one connection came back, and this is said of it
abbrev pub IsOne : (Connection → Type 0) → List Connection → Type 0
IsOne Is connections = (one : Connection) × (connections ≡ one ∷ []) × Is one

-- it was served, whether or not a call of it has failed; or none could be accepted
abbrev pub HasServedNext : Option ℕ → ℕ → List Batch → Option (List Connection) → Option (List Connection) → ℕ → ℕ → ℕ → ℕ → Result Ended ConnectFault → Type 0
HasServedNext moment before seen told told' failures failures' faults faults' (Ok ended.Whole) =
    CameBack told told' (IsOne (λ one. IsServed moment before seen one × Unfailed one))
    × (failures' ≡ failures) × (faults' ≡ faults)
HasServedNext moment before seen told told' failures failures' faults faults' (Ok ended.Failed) =
    CameBack told told' (IsOne (IsServed moment before seen)) × (failures' ≡ failures) × Rose faults faults'
HasServedNext moment before seen told told' failures failures' faults faults' (Err fault.Gateway) =
    (told' ≡ told) × Rose failures failures' × Rose faults faults'
HasServedNext moment before seen told told' failures failures' faults faults' (Err fault.OutOfMemory) = Unit {0}

-- what the end of a stream says of its connection
abbrev pub ended_as : Result ℕ StreamFault → Result Ended ConnectFault
ended_as (Ok count) = Ok ended.Whole
ended_as (Err (stream.TooSmall size)) = Ok ended.Whole
ended_as (Err stream.TooLong) = Ok ended.Whole
ended_as (Err stream.Source) = Ok ended.Failed
ended_as (Err stream.Sink) = Ok ended.Failed
ended_as (Err stream.OutOfMemory) = Err fault.OutOfMemory

-- whether a call of a connection has failed, where it was so before
abbrev pub noted : Bool → Ended → Bool
noted failed ended.Whole = failed
noted failed ended.Failed = true
