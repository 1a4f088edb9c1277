-- An outlet in memory.
use Rattle.std.specs.Prelude.{ℕ, ◌-◌, List, [], ◌∷◌, ◌++◌}
use Rattle.std.specs.List.{flat_map}
use Rattle.arrivals.specs.declared.event.Event.{Event}
use Rattle.counters.specs.Counts.{no_counts}
use Rattle.dname.specs.Name.{Label}
use Rattle.forwarding.specs.Holding.{holding_of}
use Rattle.forwarding.specs.Lawful.{Told}
use Rattle.forwarding.specs.declared.carried.Carried.{Carried}
use Rattle.forwarding.specs.declared.carried.Carried.TheVariants.{Received, Given}
use Rattle.forwarding.specs.declared.holding.Holding.{Holding}
use Rattle.forwarding.specs.declared.sent.Receiver.{Receiver}
use Rattle.forwarding.specs.declared.sent.Sent.{Sent}

-- the passed names for which it was opened, what went over it, in turn, the events that are still to come, how many more messages it
-- has room to send, and the counts and what is held that it was shown last
pub record Carrying : Type 0 where
  pub passes : List (List Label)
  pub carried : List Carried
  pub left : List Event
  pub room : ℕ
  pub shown : List ℕ
  pub holding : Holding

-- the outlet before its first call
abbrev pub outlet_of : List (List Label) → List Event → ℕ → Carrying
outlet_of passed events room =
    record { passes = passed; carried = []; left = events; room = room; shown = no_counts; holding = holding_of [] }

-- the events that were received
abbrev pub received_by : Carried → List Event
received_by (Received event) = event ∷ []
received_by (Given sent) = []

-- what was given to be sent
abbrev pub given_by : Carried → List Sent
given_by (Received event) = []
given_by (Given sent) = sent ∷ []

-- what it tells
abbrev pub told_by : Carrying → Told
told_by outlet = record {
  passes = outlet.passes;
  received = flat_map received_by outlet.carried;
  sent = flat_map given_by outlet.carried;
}

abbrev pub sent_to : Receiver → List ℕ → Sent
sent_to receiver octets = record { receiver = receiver; octets = record { items = octets } }

-- after the receipt of this event, before these
abbrev pub after_receipt : Event → List Event → Carrying → Carrying
after_receipt event rest outlet = record outlet {
  carried = outlet.carried ++ Received event ∷ [];
  left = rest;
}

-- after this was given to be sent
abbrev pub after_giving : Sent → Carrying → Carrying
after_giving sent outlet = record outlet {
  carried = outlet.carried ++ Given sent ∷ [];
  room = outlet.room - 1;
}

-- after it was shown these counts, and that this is held
abbrev pub after_showing : List ℕ → Holding → Carrying → Carrying
after_showing counts holding outlet = record outlet { shown = counts; holding = holding }
