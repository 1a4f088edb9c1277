-- What went over a link, in turn.
use Rattle.std.specs.Prelude.{◌≡◌, List, [], ◌∷◌, ◌++◌, Option, option_map, IfSome}
use Rattle.std.specs.List.{flat_map}
use Rattle.outside_core.specs.declared.datagram.Datagram.{Datagram}
use Rattle.outside_core.specs.declared.event.Event.{Event}
use Rattle.outside_core.specs.declared.event.Event.TheVariants.{Awaited, Found, Sent}

-- the datagrams that were received
abbrev pub received_by : Event → List Datagram
received_by (Awaited datagram) = datagram ∷ []
received_by (Found datagram) = datagram ∷ []
received_by (Sent datagram) = []

abbrev pub received_in : List Event → List Datagram
received_in events = flat_map received_by events

-- the datagrams that were sent
abbrev pub sent_by : Event → List Datagram
sent_by (Awaited datagram) = []
sent_by (Found datagram) = []
sent_by (Sent datagram) = datagram ∷ []

abbrev pub sent_in : List Event → List Datagram
sent_in events = flat_map sent_by events

-- the events so far, where they are told, and then this one
abbrev pub one_more_told : Option (List Event) → Event → Option (List Event)
one_more_told told event = option_map (λ before. before ++ event ∷ []) told

-- where events are told, there are none
abbrev pub TellsNone : Option (List Event) → Type 0
TellsNone told = IfSome told (λ events. events ≡ [])
