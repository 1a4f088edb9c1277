-- A source in memory, of whose calls some fail.
use Rattle.std.specs.Prelude.{ℕ}
use Rattle.outside_core.specs.FaultPlan.{Plan, after_success, after_fault}
use Rattle.outside_core.specs.SteadySource.{Supply, after_taking}

-- what was taken and what is left, and which calls fail
pub record Reading : Type 0 where
  pub supply : Supply
  pub plan : Plan

-- after a call that gave so many octets
abbrev pub after_read : ℕ → Reading → Reading
after_read count reading = record {
  supply = after_taking count reading.supply;
  plan = after_success reading.plan;
}

-- after a call that failed
abbrev pub after_failed_read : Reading → Reading
after_failed_read reading = record reading { plan = after_fault reading.plan }
