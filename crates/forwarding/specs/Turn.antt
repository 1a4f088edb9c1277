-- What one worker did of the events that came to it, in their order.
use Rattle.std.specs.Prelude.{◌≡◌, ℕ, ◌-◌, ◌<◌, ◌≤◌, Bool, true, false, List, [], ◌∷◌, length, take, slice_get, Option, Some, None}
use Rattle.std.specs.List.{All, flat_map}
use Rattle.arrivals.specs.declared.event.Event.{Event}
use Rattle.dname.specs.Name.{Label}
use Rattle.dnswire.specs.Query.{IsReadAs}
use Rattle.dnswire.specs.declared.question.Question.{Question}
use Rattle.dnswire.specs.declared.query_read.QueryRead.TheVariants as reads
use Rattle.denial_records.specs.declared.batch.Batch.{Batch}
use Rattle.cache_meaning.specs.Held.{held_of}
use Rattle.resolver.specs.Answering.{IsSoundBy}
use Rattle.resolver.specs.declared.answering.Answering.TheVariants.{ByWalk}
use Rattle.resolver.specs.declared.rule.Rule.TheVariants.{Both}
use Rattle.waiting_table.specs.Waiting.{Slot}
use Rattle.forwarding.specs.Done.{Done, IsDone}
use Rattle.forwarding.specs.declared.sent.Sent.{Sent}
use Rattle.forwarding.specs.declared.want.Want.{Want}

-- an event, the number of the version's batches, the IDs that were drawn, for what memory was wanted, what was done, and whether a
-- batch was placed
pub record Turn : Type 0 where
  pub event : Event
  pub version : ℕ
  pub ids : List ℕ
  pub want : Want
  pub done : Done
  pub placed : Bool

-- the number of the last version that a cache can have
abbrev pub LAST : ℕ
LAST = 4611686018427387903

-- a batch is the one that made the version, or the version is the last, which has room for no other
abbrev pub IsKeptAt : List Batch → ℕ → Option Batch → Bool → Type 0
IsKeptAt history version None placed = placed ≡ false
IsKeptAt history version (Some batch) true =
    (1 ≤ version) × (slice_get history (version - 1) ≡ Some batch)
IsKeptAt history version (Some batch) false = version ≡ LAST

-- what the records of the version prove of the question is true of every zone of which they are
abbrev pub IsSoundDone : List Batch → Event → Type 0
IsSoundDone seen event =
    (question : Question) → IsReadAs event.octets.items (reads.Query question)
    → IsSoundBy (ByWalk Both) (held_of seen) question event.moment.seconds

-- the event did this to the table, at its version
pub record IsTurn (passed : List (List Label)) (history : List Batch) (table : List Slot) (turn : Turn) : Type 0 where
  pub within : turn.version ≤ length history
  pub drawn : All (λ id. id < 65536) turn.ids
  pub does :
      IsDone passed table (take turn.version history) turn.event turn.ids turn.want turn.done
  pub sound : IsSoundDone (take turn.version history) turn.event
  pub kept : IsKeptAt history turn.version turn.done.batch turn.placed

-- each event finds the table that the one before it left
abbrev pub AreTurns : List (List Label) → List Batch → List Slot → List Turn → Type 0
AreTurns passed history table [] = Unit {0}
AreTurns passed history table (turn ∷ later) =
    IsTurn passed history table turn × AreTurns passed history turn.done.table later

-- all that the turns send, in order
abbrev pub sends_of : List Turn → List Sent
sends_of turns = flat_map (λ turn. turn.done.sends) turns
