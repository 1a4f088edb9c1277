-- No public clause cites this module. What a worker has done so far, and what it does of datagrams that came together.
use Rattle.std.specs.Prelude.{◌≡◌, ℕ, ◌+◌, ◌≤◌, List, [], ◌∷◌, ◌++◌, length, map, Option, IfSome, Err}
use Rattle.std.specs.List.{All, flat_map}
use mathlib.Core.List.{IsPrefix}
use Rattle.cache_meaning.specs.Held.{Held}
use Rattle.denial_records.specs.declared.batch.Batch.{Batch}
use Rattle.cache_versions.specs.declared.state.State.{Ghosts}
use Rattle.cache_versions.specs.declared.seat.Seat.{Seat}
use Rattle.cache_versions.specs.Seats.{places_by, seen_by}
use Rattle.serving.specs.Pending.{Slot, empty_table}
use Rattle.outside_core.specs.declared.datagram.Datagram.{Datagram}
use Rattle.outside_core.specs.declared.event.Event.{Event}
use Rattle.outside_core.specs.declared.event.Event.TheVariants.{Awaited, Found, Sent}
use Rattle.serving.specs.declared.workspace.Answer.{Answer}
use Rattle.serving.specs.declared.serve_fault.ServeFault.{ServeFault}
use Rattle.serving.specs.Turn.{Turn, AreTurnsOf, sent_by, sent_of}
use Rattle.serving.specs.Rounds.{Round, events_of, turns_in}
use Rattle.serving.specs.Worker.{HasServed, more_told}

-- ---- the steps of a round

-- the first was waited for, and the others were found behind it
abbrev pub came_as : List Datagram → List Event
came_as [] = []
came_as (datagram ∷ others) = Awaited datagram ∷ map Found others

-- what is to be sent by these answers
abbrev pub due_of : List Answer → List Datagram
due_of answers = flat_map (λ answer. sent_by answer.deed answer.octets) answers

-- a part of what was due is sent, and not all
pub record IsSentInPart (due : List Datagram) (events events' : Option (List Event)) : Type 0 where
  pub went : List Datagram
  pub rest : List Datagram
  pub all : went ++ rest ≡ due
  pub some : 1 ≤ length rest
  pub events_are : events' ≡ more_told events (map Sent went)

-- the table that the turns leave
abbrev pub left_by : List Slot → List Turn → List Slot
left_by table [] = table
left_by table (turn ∷ later) = left_by turn.done.table later

-- how a worker stands: its seat of the cache, its table, and the events that its link tells
pub record WorkerState (g : Ghosts Held Batch (Unit {0})) : Type 0 where
  pub seat : Seat Held Batch (Unit {0}) g
  pub table : List Slot
  pub events : Option (List Event)

module _ {g : Ghosts Held Batch (Unit {0})} where
  abbrev pub state_of : Seat Held Batch (Unit {0}) g → List Slot → Option (List Event) → WorkerState g
  state_of seat table events = record { seat = seat; table = table; events = events }

  -- a worker has done these turns since its seat was as before
  pub record HasDone (moment : Option ℕ) (before now : Seat Held Batch (Unit {0}) g) (table : List Slot) (turns : List Turn) : Type 0 where
    pub moments : IfSome moment (λ always. All (λ turn. turn.now ≡ always) turns)
    pub begins : IsPrefix (seen_by before) (seen_by now)
    pub placed : List ℕ
    pub places : places_by now ≡ places_by before ++ placed
    pub are : AreTurnsOf (length (seen_by before)) (seen_by now) placed turns
    pub left : table ≡ left_by empty_table turns

  -- and then these datagrams by more turns, for which this is due
  pub record HasDoneMore (moment : Option ℕ) (before now : Seat Held Batch (Unit {0}) g) (table : List Slot) (turns : List Turn) (datagrams due : List Datagram) : Type 0 where
    pub more : List Turn
    pub done : HasDone moment before now table (turns ++ more)
    pub datagrams_are : map (λ turn. turn.datagram) more ≡ datagrams
    pub due_is : sent_of more ≡ due

  -- whatever was done before, these datagrams are done, for which this is due
  abbrev pub DoesSome :
      Option ℕ → Seat Held Batch (Unit {0}) g → Seat Held Batch (Unit {0}) g → List Slot → List Slot
      → List Datagram → List Datagram → Type 0
  DoesSome moment seat seat' table table' datagrams due =
      (before : Seat Held Batch (Unit {0}) g) (turns : List Turn)
      → HasDone moment before seat table turns
      → HasDoneMore moment before seat' table' turns datagrams due

  -- ---- whole rounds

  -- a worker that stood as before, without a query that waits, has done so many datagrams in rounds that are whole
  pub record IsAtWork (count : ℕ) (moment : Option ℕ) (before now : WorkerState g) : Type 0 where
    pub fresh : before.table ≡ empty_table
    pub rounds : List Round
    pub many : length (turns_in rounds) ≡ count
    pub done : HasDone moment before.seat now.seat now.table (turns_in rounds)
    pub events_are : now.events ≡ more_told before.events (events_of rounds)

  -- whatever was done before, so many more are done, in whole rounds
  abbrev pub WorksOn : ℕ → Option ℕ → WorkerState g → WorkerState g → Type 0
  WorksOn count moment state state' =
      (n : ℕ) (before : WorkerState g)
      → IsAtWork n moment before state
      → IsAtWork (n + count) moment before state'

  -- whatever was done before, the worker ends by the fault, of so many more at most
  abbrev pub Halts : ℕ → Option ℕ → WorkerState g → WorkerState g → ServeFault → Type 0
  Halts most moment state state' fault =
      (n datagrams : ℕ) (before : WorkerState g)
      → n + most ≤ datagrams
      → IsAtWork n moment before state
      → HasServed datagrams moment before.seat state'.seat before.events state'.events (Err fault)
