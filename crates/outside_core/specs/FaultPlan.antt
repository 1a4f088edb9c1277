-- Which calls of a form in memory fail.
use Rattle.std.specs.Prelude.{ℕ, List, Contains}
use Rattle.outside_core.specs.Fault.{next_count}

-- the numbers of the calls that fail, counted from 1, and how many calls and faults there were
pub record Plan : Type 0 where
  pub failing : List ℕ
  pub calls : ℕ
  pub faults : ℕ

-- the plan before the first call
abbrev pub plan_of : List ℕ → Plan
plan_of failing = record { failing = failing; calls = 0; faults = 0 }

-- the number of the next call is one of those that fail
abbrev pub IsDue : Plan → Type 0
IsDue plan = Contains plan.failing (next_count plan.calls)

-- the plan after a call that did not fail
abbrev pub after_success : Plan → Plan
after_success plan = record plan { calls = next_count plan.calls }

-- the plan after a call that failed
abbrev pub after_fault : Plan → Plan
after_fault plan = record plan { calls = next_count plan.calls; faults = next_count plan.faults }

-- the plan after a fault that is no call
abbrev pub after_note : Plan → Plan
after_note plan = record plan { faults = next_count plan.faults }
