-- A gateway in memory, of whose calls some fail.
use Rattle.std.specs.Prelude.{◌≡◌, ℕ, ◌⊎◌, if◌then◌else◌, Bool, true, List, [], length, map, Option, Some, None}
use Rattle.outside_core.specs.Fault.{next_count}
use Rattle.outside_core.specs.FaultPlan.{Plan, IsDue, after_fault, after_success}
use Rattle.outside_core.specs.MemorySource as source
use Rattle.outside_core.specs.MemorySink as sink
use Rattle.gateway.specs.Connection.{Connection}

-- a source and a sink in memory
abbrev pub Ends : Type 0
Ends = source.Reading × sink.Writing

-- nothing was read from it or written to it, and no call has failed
pub record IsFresh (ends : Ends) : Type 0 where
  pub taken : ends.0.supply.taken ≡ []
  pub written : ends.1.written ≡ []
  pub unfailed_source : ends.0.plan.faults ≡ 0
  pub unfailed_sink : ends.1.plan.faults ≡ 0

-- the connections still to accept, those that came back, for how many there is room, whether all that came back are among
-- them, the port, which calls fail, and how many faults there were
pub record Gating : Type 0 where
  pub left : List Ends
  pub came : List Ends
  pub room : ℕ
  pub tells : Bool
  pub port : Option ℕ
  pub plan : Plan
  pub faults : ℕ

-- the gateway before its first call
abbrev pub gateway_of : List Ends → Plan → Gating
gateway_of connections plan = record {
  left = connections;
  came = [];
  room = length connections;
  tells = true;
  port = None;
  plan = plan;
  faults = 0;
}

-- what shows of a connection in memory
abbrev pub shown : Ends → Connection
shown ends = record {
  taken = ends.0.supply.taken;
  left = ends.0.supply.left;
  written = ends.1.written;
  source_faults = ends.0.plan.faults;
  sink_faults = ends.1.plan.faults;
}

-- the connections that came back, where the gateway tells them
abbrev pub told_back : Gating → Option (List Connection)
told_back gateway = if gateway.tells then Some (map shown gateway.came) else None

-- after a `listen` that did not fail
abbrev pub after_listen : ℕ → Gating → Gating
after_listen port gateway = record gateway { port = Some port; plan = after_success gateway.plan }

-- after an `accept` that gave the first connection, and left the others
abbrev pub after_accept : List Ends → Gating → Gating
after_accept rest gateway = record gateway { left = rest; plan = after_success gateway.plan }

-- after a `listen` or an `accept` that failed
abbrev pub after_failed_call : Gating → Gating
after_failed_call gateway = record gateway {
  plan = after_fault gateway.plan;
  faults = next_count gateway.faults;
}

-- the next accept fails: its number is one of those that do, or no connection is left
abbrev pub IsShut : Gating → Type 0
IsShut gateway = IsDue gateway.plan ⊎ (gateway.left ≡ [])
