-- What one worker did of the datagrams that it received, in their order.
use Rattle.std.specs.Prelude.{◌≡◌, ℕ, ◌-◌, ◌<◌, ◌≤◌, Bool, true, false, cond, List, [], ◌∷◌, length, take, slice_get, Option, Some, None}
use Rattle.std.specs.List.{All, AllPairs, flat_map}
use Rattle.denial_records.specs.declared.batch.Batch.{Batch}
use Rattle.serving.specs.Pending.{Slot, empty_table}
use Rattle.outside_core.specs.Datagram.{datagram_of}
use Rattle.outside_core.specs.declared.datagram.Datagram.{Datagram}
use Rattle.outside_core.specs.declared.datagram.Peer.TheVariants.{Client, Upstream}
use Rattle.serving.specs.declared.deed.Deed.{Deed}
use Rattle.serving.specs.declared.deed.Deed.TheVariants.{Quiet, Ignored, ToUpstream, ToClient}
use Rattle.serving.specs.Done.{Done, IsDone}
use Rattle.serving.specs.Serves.{LAST}
use Rattle.serving.specs.Sound.{IsSoundDone}

-- a datagram that was received, the moment, the number of the version's batches, what was done, and whether a batch was placed
pub record Turn : Type 0 where
  pub datagram : Datagram
  pub now : ℕ
  pub version : ℕ
  pub done : Done
  pub placed : Bool

-- ---- over the batches that were seen

-- a batch is the one that made the version, or the version is the last, which has room for no other
abbrev pub IsKeptAt : List Batch → ℕ → Option Batch → Bool → Type 0
IsKeptAt journal version None placed = placed ≡ false
IsKeptAt journal version (Some batch) true =
    (1 ≤ version) × (slice_get journal (version - 1) ≡ Some batch)
IsKeptAt journal version (Some batch) false = version ≡ LAST

-- the datagram did this to the table, at its version, and a reply that the version's records prove is sound
pub record IsTurn (journal : List Batch) (table : List Slot) (turn : Turn) : Type 0 where
  pub within : turn.version ≤ length journal
  pub does : IsDone table turn.now (take turn.version journal) turn.datagram turn.done
  pub sound : IsSoundDone (take turn.version journal) turn.now turn.datagram.octets turn.done
  pub kept : IsKeptAt journal turn.version turn.done.batch turn.placed

-- each datagram finds the table that the one before it left
abbrev pub AreTurns : List Batch → List Slot → List Turn → Type 0
AreTurns journal table [] = Unit {0}
AreTurns journal table (turn ∷ later) = IsTurn journal table turn × AreTurns journal turn.done.table later

-- of two datagrams the later has no lower version, and a higher one where it places a batch
pub record IsInTurn (earlier later : Turn) : Type 0 where
  pub never_back : earlier.version ≤ later.version
  pub rises : later.placed ≡ true → earlier.version < later.version

-- where the batch stands that was placed, if one was
abbrev pub places_of : Turn → List ℕ
places_of turn = cond turn.placed ((turn.version - 1) ∷ []) []

-- the turns of one worker, from an empty table. Its seat had seen so many batches before, has seen these in the end, and has
-- placed batches at these places of them
pub record AreTurnsOf (before : ℕ) (journal : List Batch) (placed : List ℕ) (turns : List Turn) : Type 0 where
  pub each : AreTurns journal empty_table turns
  pub order : AllPairs IsInTurn turns
  pub since : All (λ turn. before ≤ turn.version) turns
  pub rises : All (λ turn. turn.placed ≡ true → before < turn.version) turns
  pub places : placed ≡ flat_map places_of turns

-- ---- what is sent

-- the datagram that the deed sends, if it sends one
abbrev pub sent_by : Deed → List ℕ → List Datagram
sent_by Quiet octets = []
sent_by Ignored octets = []
sent_by ToUpstream octets = datagram_of Upstream octets ∷ []
sent_by (ToClient client why) octets = datagram_of (Client client) octets ∷ []

-- all that the turns send, in order
abbrev pub sent_of : List Turn → List Datagram
sent_of turns = flat_map (λ turn. sent_by turn.done.deed turn.done.octets) turns
