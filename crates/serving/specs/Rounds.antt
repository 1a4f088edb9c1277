-- A worker goes in rounds: it waits for a datagram, takes those that have come already, does them all, and sends what they say.
use Rattle.std.specs.Prelude.{ℕ, List, ◌∷◌, ◌++◌, map}
use Rattle.std.specs.List.{flat_map}
use Rattle.outside_core.specs.declared.event.Event.{Event}
use Rattle.outside_core.specs.declared.event.Event.TheVariants.{Awaited, Found, Sent}
use Rattle.serving.specs.Turn.{Turn, places_of, sent_of}

-- the turn of the datagram that was waited for, and those of the ones that were found behind it
pub record Round : Type 0 where
  pub first : Turn
  pub others : List Turn

-- ---- the turns

abbrev pub turns_of_round : Round → List Turn
turns_of_round round = round.first ∷ round.others

abbrev pub turns_in : List Round → List Turn
turns_in rounds = flat_map turns_of_round rounds

-- where the batches stand that were placed
abbrev pub places_in : List Round → List ℕ
places_in rounds = flat_map places_of (turns_in rounds)

-- ---- what a link tells of them: whenever it was waited for, all had been sent that the rounds before say

abbrev pub events_of_round : Round → List Event
events_of_round round =
    Awaited round.first.datagram
    ∷ map (λ turn. Found turn.datagram) round.others
    ++ map Sent (sent_of (turns_of_round round))

abbrev pub events_of : List Round → List Event
events_of rounds = flat_map events_of_round rounds
