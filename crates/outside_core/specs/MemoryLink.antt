-- A link in memory, of whose calls some fail.
use Rattle.std.specs.Prelude.{◌≡◌, ℕ, ◌-◌, ◌⊎◌, List, [], ◌∷◌, ◌++◌}
use Rattle.outside_core.specs.declared.datagram.Datagram.{Datagram}
use Rattle.outside_core.specs.declared.event.Event.{Event}
use Rattle.outside_core.specs.declared.event.Event.TheVariants.{Awaited, Sent}
use Rattle.outside_core.specs.FaultPlan.{Plan, IsDue, after_success, after_fault}

-- what went over it, what is still to come, how many more datagrams it has room to send, which calls fail
pub record Linking : Type 0 where
  pub events : List Event
  pub left : List Datagram
  pub room : ℕ
  pub port : ℕ
  pub upstream : ℕ
  pub plan : Plan

-- the link before its first call
abbrev pub link_of : List Datagram → ℕ → Plan → Linking
link_of incoming room plan = record {
  events = [];
  left = incoming;
  room = room;
  port = 0;
  upstream = 0;
  plan = plan;
}

-- it has had no fault, and nothing went over it
pub record IsFresh (link : Linking) : Type 0 where
  pub unused : link.events ≡ []
  pub unfailed : link.plan.faults ≡ 0

-- the next receipt fails: its number is one of those that do, or nothing is left
abbrev pub Starves : Linking → Type 0
Starves link = IsDue link.plan ⊎ (link.left ≡ [])

-- after the receipt of this datagram, before these
abbrev pub after_receipt : Datagram → List Datagram → Linking → Linking
after_receipt datagram rest link = record link {
  events = link.events ++ Awaited datagram ∷ [];
  left = rest;
  plan = after_success link.plan;
}

-- the next sending fails: its number is one of those that do, or no room is left
abbrev pub IsCongested : Linking → Type 0
IsCongested link = IsDue link.plan ⊎ (link.room ≡ 0)

-- after this datagram was sent
abbrev pub after_sending : Datagram → Linking → Linking
after_sending datagram link = record link {
  events = link.events ++ Sent datagram ∷ [];
  room = link.room - 1;
  plan = after_success link.plan;
}

-- after a call that failed
abbrev pub after_failed_call : Linking → Linking
after_failed_call link = record link { plan = after_fault link.plan }

-- the link at a port, with an upstream port
abbrev pub bound_at : ℕ → ℕ → Linking → Linking
bound_at port upstream link = record link { port = port; upstream = upstream }
