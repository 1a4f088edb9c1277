-- What each call does, by what handles stand for: the records that an open one holds, or none where it is closed.
use Rattle.std.specs.Prelude.{◌≡◌, ℕ, ℤ, ◌<◌, ◌≤◌, ◌⊎◌, List, ◌++◌, length, drop, Option, Some, None}
use Rattle.cache_meaning.specs.Held.{Held, nothing_held}
use Rattle.intake.specs.Batch.{IsFault}
use Rattle.intake.specs.declared.intake_fault.IntakeFault.{IntakeFault}
use Rattle.intake.specs.declared.intake_fault.IntakeFault.TheVariants.{OutOfMemory}
use Rattle.reply_core.specs.declared.draft.TheConstants.{MAX_REPLY}
use Rattle.resolver.specs.Inserted.{IsInserted}
use Rattle.resolver.specs.Queried.{IsQueried}
use Rattle.resolver.specs.declared.answering.Answering.TheVariants.{ByProof}
use Rattle.resolver.specs.declared.counts.Counts.{Counts}
use Rattle.resolver.specs.declared.query_outcome.QueryOutcome.{QueryOutcome}
use Rattle.dnsreplay_c.specs.Codes.{code_of_fault, code_of_outcome}
use Rattle.dnsreplay_c.specs.declared.code.TheConstants.{DONE, NO_MEMORY, NO_ROOM, WRONG_STATE}

-- ---- handles

-- a closed one is opened on nothing held, or there is no memory; an open one is refused
abbrev pub IsOpened : ℤ → Option Held → Option Held → Type 0
IsOpened code None after = ((code ≡ DONE) × (after ≡ Some nothing_held)) ⊎ ((code ≡ NO_MEMORY) × (after ≡ None))
IsOpened code (Some held) after = (code ≡ WRONG_STATE) × (after ≡ Some held)

-- an open one is closed; a closed one is refused
abbrev pub IsClosed : ℤ → Option Held → Option Held → Type 0
IsClosed code None after = (code ≡ WRONG_STATE) × (after ≡ None)
IsClosed code (Some held) after = (code ≡ DONE) × (after ≡ None)

-- a closed one is opened on what an open one has, or there is no memory; else it is refused
abbrev pub IsCopied : ℤ → Option Held → Option Held → Option Held → Type 0
IsCopied code (Some held) None after = ((code ≡ DONE) × (after ≡ Some held)) ⊎ ((code ≡ NO_MEMORY) × (after ≡ None))
IsCopied code (Some held) (Some other) after = (code ≡ WRONG_STATE) × (after ≡ Some other)
IsCopied code None before after = (code ≡ WRONG_STATE) × (after ≡ before)

abbrev pub count_of : Option Held → ℕ
count_of None = 0
count_of (Some held) = length held.records

-- ---- inserts

-- the octets are refused for this fault, or there is no memory
abbrev pub IsRefusal : List ℕ → ℕ → IntakeFault → Type 0
IsRefusal octets now fault = (fault ≡ OutOfMemory) ⊎ IsFault octets now fault

-- what is held goes on to what the octets make of it, and the counts say how much was stored; or they are refused by the code of
-- the fault, and all is as it was
abbrev pub HasInserted : Held → List ℕ → ℕ → ℤ → Held → Counts → Counts → Type 0
HasInserted held octets now code after counts counts' =
    ((code ≡ DONE) × IsInserted held octets now after counts')
    ⊎ ((fault : IntakeFault) × IsRefusal octets now fault
    × (code ≡ code_of_fault fault) × (after ≡ held) × (counts' ≡ counts))

-- so it is of an open handle; a closed one is refused
abbrev pub IsInsert : Option Held → List ℕ → ℕ → ℤ → Option Held → Counts → Counts → Type 0
IsInsert None octets now code after counts counts' = (code ≡ WRONG_STATE) × (after ≡ None) × (counts' ≡ counts)
IsInsert (Some held) octets now code after counts counts' =
    (next : Held) × (after ≡ Some next) × HasInserted held octets now code next counts counts'

-- ---- queries

-- the octets are at the front of the room, the rest of which is as it was, and their number is written
pub record IsWritten (octets room room' : List ℕ) (written' : ℕ) : Type 0 where
  pub fits : length octets ≤ length room
  pub front : room' ≡ octets ++ drop (length octets) room
  pub number : written' ≡ length octets

-- the octets have no room, and nothing is written
pub record IsWithoutRoom (octets room room' : List ℕ) (written written' : ℕ) : Type 0 where
  pub larger : length room < length octets
  pub same : room' ≡ room
  pub number : written' ≡ written

-- the query's octets have this outcome and this reply, which is written, or has no room
pub record HasReplied (held : Held) (query : List ℕ) (now : ℕ) (code : ℤ) (room room' : List ℕ) (written written' : ℕ) : Type 0 where
  pub outcome : QueryOutcome
  pub octets : List ℕ
  pub queried : IsQueried ByProof held query now outcome octets
  pub small : length octets ≤ MAX_REPLY
  pub told :
      ((code ≡ code_of_outcome outcome) × IsWritten octets room room' written')
      ⊎ ((code ≡ NO_ROOM) × IsWithoutRoom octets room room' written written')

-- so it is by an open handle; a closed one is refused
abbrev pub IsQuery : Option Held → List ℕ → ℕ → ℤ → List ℕ → List ℕ → ℕ → ℕ → Type 0
IsQuery None query now code room room' written written' = (code ≡ WRONG_STATE) × (room' ≡ room) × (written' ≡ written)
IsQuery (Some held) query now code room room' written written' = HasReplied held query now code room room' written written'
