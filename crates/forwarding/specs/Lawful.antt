-- What may be sent: what the events received so far call for, by the history of the cache.
use Rattle.std.specs.Prelude.{◌≡◌, ℕ, ◌<◌, Bool, List, [], ◌∷◌, ◌++◌, length, map, Option, option_map, IfSome}
use Rattle.std.specs.List.{All, flat_map}
use mathlib.Core.List.{IsPrefix}
use Rattle.arrivals.specs.declared.event.Event.{Event}
use Rattle.counters.specs.Counts.{counted, no_counts}
use Rattle.dname.specs.Name.{Label}
use Rattle.denial_records.specs.declared.batch.Batch.{Batch}
use Rattle.waiting_table.specs.Waiting.{Slot, empty_table}
use Rattle.forwarding.specs.Done.{Done, IsDone}
use Rattle.forwarding.specs.Turn.{Turn, AreTurns, IsKeptAt, sends_of}
use Rattle.forwarding.specs.declared.sent.Sent.{Sent}
use Rattle.forwarding.specs.declared.want.Want.{Want}

-- the names that are passed, as the outlet was told when it was opened, and what it carried so far
pub record Told : Type 0 where
  pub passes : List (List Label)
  pub received : List Event
  pub sent : List Sent

-- the passed names are the outlet's; the events received so far did these turns, by this history, from an empty table; what was sent
-- is what they say, up to some of it
pub record IsLawful (passed : List (List Label)) (history : List Batch) (told : Told) : Type 0 where
  pub passes_are : told.passes ≡ passed
  pub turns : List Turn
  pub events_are : told.received ≡ map (λ turn. turn.event) turns
  pub are : AreTurns passed history empty_table turns
  pub begins : IsPrefix told.sent (sends_of turns)

-- before anything was carried
abbrev pub new_told : List (List Label) → Told
new_told passed = record { passes = passed; received = []; sent = [] }

abbrev pub with_event : Event → Told → Told
with_event event before = record before { received = before.received ++ event ∷ [] }

abbrev pub with_sends : List Sent → Told → Told
with_sends sends before = record before { sent = before.sent ++ sends }

-- and then this was received
abbrev pub more_received : Option Told → Event → Option Told
more_received told event = option_map (with_event event) told

-- and then these were sent
abbrev pub more_sent : Option Told → List Sent → Option Told
more_sent told sends = option_map (with_sends sends) told

-- where the outlet tells what it carried, it is lawful with these sent too, in order
abbrev pub MaySendAll : List (List Label) → List Batch → Option Told → List Sent → Type 0
MaySendAll passed history told sends = IfSome (more_sent told sends) (IsLawful passed history)

-- with this one sent too
abbrev pub MaySend : List (List Label) → List Batch → Option Told → Sent → Type 0
MaySend passed history told one = MaySendAll passed history told (one ∷ [])

-- these names are passed, and nothing was carried yet
abbrev pub IsNew : List (List Label) → Option Told → Type 0
IsNew passed told = IfSome told (λ before. before ≡ new_told passed)

-- ---- a worker

-- the table that the turns leave
abbrev pub left_by : List Slot → List Turn → List Slot
left_by table [] = table
left_by table (turn ∷ later) = left_by turn.done.table later

-- what all of them counted
abbrev pub counts_of : List Turn → List ℕ
counts_of turns = counted (flat_map (λ turn. turn.done.tallies) turns) no_counts

-- the passed names are the outlet's; all that was received was done, all of it was sent, and it was counted
pub record HasServed (passed : List (List Label)) (history : List Batch) (table : List Slot) (counts : List ℕ) (told : Told) : Type 0 where
  pub passes_are : told.passes ≡ passed
  pub turns : List Turn
  pub events_are : told.received ≡ map (λ turn. turn.event) turns
  pub are : AreTurns passed history empty_table turns
  pub sent_are : told.sent ≡ sends_of turns
  pub left : table ≡ left_by empty_table turns
  pub counts_are : counts ≡ counts_of turns

-- where the outlet tells what it carried
abbrev pub IsAtWork : List (List Label) → List Batch → List Slot → List ℕ → Option Told → Type 0
IsAtWork passed history table counts told = IfSome told (HasServed passed history table counts)

-- so it was, and then this event came
pub record HasCome (passed : List (List Label)) (history : List Batch) (table : List Slot) (counts : List ℕ) (event : Event) (told : Told) : Type 0 where
  pub before : Told
  pub served : HasServed passed history table counts before
  pub told_is : told ≡ with_event event before

abbrev pub IsCalled : List (List Label) → List Batch → List Slot → List ℕ → Event → Option Told → Type 0
IsCalled passed history table counts event told = IfSome told (HasCome passed history table counts event)

-- where the outlet tells what it carried, these are the counts of all that was received
abbrev pub MayShow : List (List Label) → List Batch → Option Told → List ℕ → Type 0
MayShow passed history told counts = (table : List Slot) × IsAtWork passed history table counts told

-- What an event does by the version that was seen, with these IDs drawn, may be sent, all of it; once it was sent and counted, the
-- worker has served
abbrev pub EachTurnIsLawful : Type 0
EachTurnIsLawful =
    (passed : List (List Label)) (history : List Batch) (table : List Slot) (counts : List ℕ) (event : Event)
    (ids : List ℕ) (want : Want) (done : Done) (placed : Bool) (told told' : Option Told)
    → IsCalled passed history table counts event told
    → IsDone passed table history event ids want done
    → All (λ id. id < 65536) ids
    → IsKeptAt history (length history) done.batch placed
    → MaySendAll passed history told done.sends
    × (told' ≡ more_sent told done.sends
    → IsAtWork passed history done.table (counted done.tallies counts) told')
