-- What the octets of an upstream's answer give at a moment: a batch of records, or a refusal.
use Rattle.std.specs.Prelude.{◌≡◌, ℕ, ◌<◌, ◌≤◌, not, ◌||◌, ◌==◌, if◌then◌else◌, List, [], ◌++◌, length, get_or, count_by, flat_map, Option, Some, None, Result, Ok, Err, is_none}
use Rattle.std.specs.List.{AllZip}
use Rattle.std.specs.Option.{option_to_list}
use Rattle.dnswire.specs.Header.{is_answer, has_tc, has_ad}
use Rattle.dnswire.specs.Message.{IsMessage, IsFaultOf}
use Rattle.dnswire.specs.declared.message.Message.{Message}
use Rattle.denial_records.specs.declared.batch.Batch.{Batch}
use Rattle.denial_records.specs.declared.record.Record.{Record}
use Rattle.intake.specs.Group.{Group, groups_of}
use Rattle.intake.specs.Stored.{IsStored}
use Rattle.intake.specs.declared.taken.Taken.{Taken}
use Rattle.intake.specs.declared.intake_fault.IntakeFault.{IntakeFault}
use Rattle.intake.specs.declared.intake_fault.IntakeFault.TheVariants.{Malformed, NotResponse, Truncated, Rcode, NotAuthentic, Nothing, OutOfMemory}

-- ---- the header

-- the first fault of a message's header: AD says that the answer was validated (RFC 4035, section 3.2.3), and what has
-- records to store is RCODE 0, or 3 for a name error
abbrev pub header_fault : Message → Option IntakeFault
header_fault message =
    if not (is_answer message.flags) then Some NotResponse
    else if has_tc message.flags then Some Truncated
    else if not ((message.rcode == 0) || (message.rcode == 3)) then Some (Rcode message.rcode)
    else if not (has_ad message.flags) then Some NotAuthentic
    else None

-- ---- the records

-- the record that a group is stored as at this moment, or none
abbrev pub IsTakenAs : ℕ → Group → Option Record → Type 0
IsTakenAs now group None = (record' : Record) → IsStored now group record' → ⊥
IsTakenAs now group (Some record') = IsStored now group record'

-- the records of the message's groups in order, and how many groups aren't stored
pub record Brings (message : Message) (now : ℕ) (batch : Batch) (skipped : ℕ) : Type 0 where
  pub taken : List (Option Record)
  pub each : AllZip (IsTakenAs now) (groups_of now (message.answer ++ message.authority)) taken
  pub batch_is : batch ≡ record { now = now; records = flat_map option_to_list taken }
  pub skipped_is : skipped ≡ count_by is_none taken

-- ---- the outcome

-- the octets are a message without a fault in its header, which brings this
pub record IsAccepted (octets : List ℕ) (now : ℕ) (batch : Batch) (skipped : ℕ) : Type 0 where
  pub message : Message
  pub reads : IsMessage octets message
  pub no_fault : header_fault message ≡ None
  pub brings : Brings message now batch skipped

-- the octets are a message whose header has this fault
pub record IsRefused (octets : List ℕ) (fault : IntakeFault) : Type 0 where
  pub message : Message
  pub reads : IsMessage octets message
  pub faulty : header_fault message ≡ Some fault

-- the octets give a batch
pub record IsTaken (octets : List ℕ) (now : ℕ) (taken : Taken) : Type 0 where
  pub accepted : IsAccepted octets now taken.batch taken.skipped
  pub some : 1 ≤ length taken.batch.records

-- the octets give no batch, for this fault: in the order of the variants the first that there is
abbrev pub IsFault : List ℕ → ℕ → IntakeFault → Type 0
IsFault octets now (Malformed fault) = IsFaultOf octets fault
IsFault octets now NotResponse = IsRefused octets NotResponse
IsFault octets now Truncated = IsRefused octets Truncated
IsFault octets now (Rcode rcode) = IsRefused octets (Rcode rcode)
IsFault octets now NotAuthentic = IsRefused octets NotAuthentic
IsFault octets now (Nothing skipped) = IsAccepted octets now (record { now = now; records = [] }) skipped
IsFault octets now OutOfMemory = ⊥

-- what the octets give at the moment, where there is memory
abbrev pub Gives : List ℕ → ℕ → Result Taken IntakeFault → Type 0
Gives octets now (Ok taken) = IsTaken octets now taken
Gives octets now (Err fault) = IsFault octets now fault

-- ---- a message that was read before

-- there are octets that are the message
pub record WasRead (message : Message) : Type 0 where
  pub octets : List ℕ
  pub small : (i : ℕ) → get_or octets i 0 < 256
  pub reads : IsMessage octets message

-- whatever octets are the message give this at the moment, where there is memory
abbrev pub GivesAsRead : Message → ℕ → Result Taken IntakeFault → Type 0
GivesAsRead message now given = (octets : List ℕ) → IsMessage octets message → Gives octets now given
