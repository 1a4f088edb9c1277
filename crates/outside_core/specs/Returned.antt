-- Links that came back to their harbor.
use Rattle.std.specs.Prelude.{◌≡◌, ℕ, List, [], ◌∷◌, ◌++◌, Option, Some, option_map, option_and_then, IfSome}
use Rattle.outside_core.specs.declared.event.Event.{Event}

-- what shows of a link that came back
pub record Returned : Type 0 where
  pub port : ℕ
  pub upstream : ℕ
  pub events : List Event
  pub faults : ℕ

-- what shows of a link with these ports, events and faults, where it tells its events
abbrev pub returned_of : ℕ → ℕ → Option (List Event) → ℕ → Option Returned
returned_of port upstream events faults = option_map (λ told. record {
  port = port;
  upstream = upstream;
  events = told;
  faults = faults;
}) events

-- a link that was bound at these ports, and did nothing
abbrev pub unused : ℕ → ℕ → Returned
unused port upstream = record { port = port; upstream = upstream; events = []; faults = 0 }

-- the links that came back so far, and then this one, where both are told
abbrev pub then_returned : Option (List Returned) → Option Returned → Option (List Returned)
then_returned told link =
    option_and_then (λ before. option_map (λ one. before ++ one ∷ []) link) told

-- what is told, if anything still is, is this
abbrev pub TellsAtMost : Option (List Returned) → Option (List Returned) → Type 0
TellsAtMost told whole = IfSome told (λ links. whole ≡ Some links)
