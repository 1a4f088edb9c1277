-- What one worker did over its seat and its link.
use Rattle.std.specs.Prelude.{◌≡◌, ℕ, ◌+◌, ◌<◌, ◌≤◌, ◌⊎◌, List, [], ◌++◌, length, map, Option, option_map, IfSome, Result, Ok, Err}
use Rattle.std.specs.List.{All}
use mathlib.Core.List.{IsPrefix}
use Rattle.denial_records.specs.declared.batch.Batch.{Batch}
use Rattle.cache_meaning.specs.Held.{Held}
use Rattle.cache_versions.specs.declared.state.State.{Ghosts}
use Rattle.cache_versions.specs.declared.seat.Seat.{Seat}
use Rattle.cache_versions.specs.Seats.{places_by, seen_by}
use Rattle.outside_core.specs.declared.datagram.Datagram.{Datagram}
use Rattle.outside_core.specs.declared.event.Event.{Event}
use Rattle.outside_core.specs.declared.event.Event.TheVariants.{Awaited}
use Rattle.outside_core.specs.Event.{received_in}
use Rattle.outside_core.specs.Fault.{Rose}
use Rattle.serving.specs.declared.serve_fault.ServeFault.{ServeFault}
use Rattle.serving.specs.declared.serve_fault.ServeFault.TheVariants.{Link, OutOfMemory}
use Rattle.serving.specs.Turn.{AreTurnsOf}
use Rattle.serving.specs.Rounds.{Round, events_of, turns_in}

-- the events that a link tells, where it tells them, and then these
abbrev pub more_told : Option (List Event) → List Event → Option (List Event)
more_told told events = option_map (λ before. before ++ events) told

-- How the work ends, of so many datagrams, and what went over the link. All are received, and the rounds are whole; or the link
-- failed: all is received that was done, and what went is a prefix of the rounds, a strict one where all were received; or memory
-- was wanted: behind whole rounds one datagram at most was waited for and has no turn.
abbrev pub Ends : ℕ → List Round → List Datagram → List Event → Result (Unit {0}) ServeFault → Type 0
Ends datagrams rounds lost went (Ok done) =
    (length (turns_in rounds) ≡ datagrams) × (lost ≡ []) × (went ≡ events_of rounds)
Ends datagrams rounds lost went (Err Link) =
    (length (turns_in rounds) ≤ datagrams) × (lost ≡ []) × IsPrefix went (events_of rounds)
    × (received_in went ≡ map (λ turn. turn.datagram) (turns_in rounds))
    × ((length (turns_in rounds) < datagrams) ⊎ (length went < length (events_of rounds)))
Ends datagrams rounds lost went (Err OutOfMemory) =
    (length (turns_in rounds) + length lost ≤ datagrams) × (length lost ≤ 1)
    × (went ≡ events_of rounds ++ map Awaited lost)

module _ {g : Ghosts Held Batch (Unit {0})} where
  -- a worker's rounds, what its seat was before and is after, and what its link tells before and after
  pub record HasServed (datagrams : ℕ) (moment : Option ℕ) (before after : Seat Held Batch (Unit {0}) g) (events events' : Option (List Event)) (result : Result (Unit {0}) ServeFault) : Type 0 where
    pub rounds : List Round
    -- at the one moment that the clock tells, if it tells one
    pub moments : IfSome moment (λ always. All (λ turn. turn.now ≡ always) (turns_in rounds))
    pub begins : IsPrefix (seen_by before) (seen_by after)
    pub placed : List ℕ
    pub places : places_by after ≡ places_by before ++ placed
    pub are : AreTurnsOf (length (seen_by before)) (seen_by after) placed (turns_in rounds)
    -- received without a turn
    pub lost : List Datagram
    pub went : List Event
    pub events_are : events' ≡ more_told events went
    pub ends : Ends datagrams rounds lost went result

-- the link's count of faults rises where the link failed, and else stays
abbrev pub HasFaults : ℕ → ℕ → Result (Unit {0}) ServeFault → Type 0
HasFaults before after (Ok done) = after ≡ before
HasFaults before after (Err Link) = Rose before after
HasFaults before after (Err OutOfMemory) = after ≡ before
