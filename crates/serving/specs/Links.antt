-- What the workers of one cache did, each over its own link, once the cache is closed.
use Rattle.std.specs.Prelude.{◌≡◌, ℕ, ◌<◌, ◌≤◌, ◌^◌, ◌*◌, ◌⊎◌, Bool, true, false, List, ◌++◌, length, map, not, is_none, Option, IfSome}
use Rattle.std.specs.List.{All, AllPairs, AllZip, flat_map}
use mathlib.Core.List.{IsPrefix}
use Rattle.denial_records.specs.declared.batch.Batch.{Batch}
use Rattle.cache_versions.specs.Hands.{AreAllBelow}
use Rattle.serving.specs.Pending.{empty_table}
use Rattle.outside_core.specs.Event.{received_in}
use Rattle.outside_core.specs.Returned.{Returned}
use Rattle.outside_core.specs.declared.datagram.Datagram.{Datagram}
use Rattle.outside_core.specs.declared.event.Event.TheVariants.{Awaited}
use Rattle.serving.specs.Turn.{AreTurns, AreTurnsOf, IsInTurn}
use Rattle.serving.specs.Rounds.{Round, events_of, places_in, turns_in}

-- ---- one link

-- Of so many datagrams all were received, and the rounds are whole; or the link failed, and what went over it is a prefix of the
-- rounds, a strict one where all were received. All is received that was done
pub record HasSent (datagrams : ℕ) (link : Returned) (rounds : List Round) : Type 0 where
  pub received : received_in link.events ≡ map (λ turn. turn.datagram) (turns_in rounds)
  pub few : length (received_in link.events) ≤ datagrams
  pub whole :
      link.faults ≡ 0
      → (length (received_in link.events) ≡ datagrams) × (link.events ≡ events_of rounds)
  pub part :
      1 ≤ link.faults
      → IsPrefix link.events (events_of rounds)
      × ((length (received_in link.events) < datagrams)
      ⊎ (length link.events < length (events_of rounds)))

-- Memory was wanted: behind whole rounds one datagram at most was waited for and has no turn
pub record HasWanted (datagrams : ℕ) (link : Returned) (rounds : List Round) : Type 0 where
  pub lost : List Datagram
  pub one : length lost ≤ 1
  pub events : link.events ≡ events_of rounds ++ map Awaited lost
  pub few : length (received_in link.events) ≤ datagrams
  pub unfailed : link.faults ≡ 0

-- where memory may have been wanted, the one or the other
abbrev pub HasEnded : Bool → ℕ → Returned → List Round → Type 0
HasEnded false datagrams link rounds = HasSent datagrams link rounds
HasEnded true datagrams link rounds =
    HasSent datagrams link rounds ⊎ HasWanted datagrams link rounds

-- The link has these rounds from an empty table, where these batches were placed, each turn at a moment of its own, which is the one
-- moment that the clock tells, if it tells one. Each batch that was to be placed was placed
pub record IsServed (wanting : Bool) (datagrams : ℕ) (moment : Option ℕ) (journal : List Batch) (link : Returned) (rounds : List Round) : Type 0 where
  pub ended : HasEnded wanting datagrams link rounds
  pub moments : IfSome moment (λ always. All (λ turn. turn.now ≡ always) (turns_in rounds))
  pub each : AreTurns journal empty_table (turns_in rounds)
  pub order : AllPairs IsInTurn (turns_in rounds)
  pub all : All (λ turn. turn.placed ≡ not (is_none turn.done.batch)) (turns_in rounds)

-- ---- all links

-- the links have rounds by one list of batches, of which each was placed by one turn
pub record LinksServe (wanting : Bool) (datagrams : ℕ) (moment : Option ℕ) (journal : List Batch) (links : List Returned) : Type 0 where
  pub rounds : List (List Round)
  pub each : AllZip (IsServed wanting datagrams moment journal) links rounds
  pub once : AreAllBelow (length journal) (flat_map places_in rounds)

-- ---- the law

-- what one worker did: the batches that its seat has seen in the end, where it placed batches, and its rounds
pub record Shift : Type 0 where
  pub seen : List Batch
  pub placed : List ℕ
  pub rounds : List Round

pub record IsShift (wanting : Bool) (datagrams : ℕ) (moment : Option ℕ) (journal : List Batch) (link : Returned) (shift : Shift) : Type 0 where
  pub begins : IsPrefix shift.seen journal
  pub are : AreTurnsOf 0 shift.seen shift.placed (turns_in shift.rounds)
  pub few : length (turns_in shift.rounds) ≤ datagrams
  pub moments :
      IfSome moment (λ always. All (λ turn. turn.now ≡ always) (turns_in shift.rounds))
  pub ended : HasEnded wanting datagrams link shift.rounds

-- the shifts of all workers of one new cache, which was closed with this journal, are those of links that serve
abbrev pub ShiftsServe : Type 0
ShiftsServe =
    (wanting : Bool) (datagrams : ℕ) (moment : Option ℕ) (journal : List Batch)
    (links : List Returned) (shifts : List Shift)
    → length links * datagrams < 2 ^ 32
    → AllZip (IsShift wanting datagrams moment journal) links shifts
    → AreAllBelow (length journal) (flat_map (λ shift. shift.placed) shifts)
    → LinksServe wanting datagrams moment journal links
