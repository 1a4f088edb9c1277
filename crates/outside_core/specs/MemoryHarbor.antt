-- A harbor in memory, of whose binds some fail.
use Rattle.std.specs.Prelude.{◌≡◌, ℕ, ◌⊎◌, zero, suc, if◌then◌else◌, Bool, true, false, List, [], ◌∷◌, ◌++◌, length, map, Option, Some, None}
use Rattle.outside_core.specs.FaultPlan.{Plan, IsDue, after_fault, after_success, after_note}
use Rattle.outside_core.specs.MemoryLink.{Linking}
use Rattle.outside_core.specs.Returned.{Returned}

-- the links still to bind, those that came back with their ports, for how many there is room,
-- whether all that came back are among them, and which binds fail
pub record Harboring : Type 0 where
  pub left : List Linking
  pub came : List (ℕ × Linking)
  pub room : ℕ
  pub tells : Bool
  pub plan : Plan

-- the harbor before its first call
abbrev pub harbor_of : List Linking → Plan → Harboring
harbor_of links plan = record {
  left = links;
  came = [];
  room = length links;
  tells = true;
  plan = plan;
}

-- what shows of a link in memory
abbrev pub shown : Linking → Returned
shown link = record {
  port = link.port;
  upstream = link.upstream;
  events = link.events;
  faults = link.plan.faults;
}

-- the links that came back, where the harbor tells them
abbrev pub told_back : Harboring → Option (List Returned)
told_back harbor = if harbor.tells then Some (map (λ back. shown back.1) harbor.came) else None

-- the next bind fails: its number is one of those that do, or no link is left
abbrev pub IsShut : Harboring → Type 0
IsShut harbor = IsDue harbor.plan ⊎ (harbor.left ≡ [])

-- after a bind that gave the first link, and left the others
abbrev pub after_bind : List Linking → Harboring → Harboring
after_bind rest harbor = record harbor { left = rest; plan = after_success harbor.plan }

-- after a bind that failed
abbrev pub after_failed_bind : Harboring → Harboring
after_failed_bind harbor = record harbor { plan = after_fault harbor.plan }

-- the plan after a link with so many faults came back
abbrev pub plan_after : ℕ → Plan → Plan
plan_after zero plan = plan
plan_after (suc _) plan = after_note plan

-- after a link came back and found room
abbrev pub after_part : ℕ → Linking → Harboring → Harboring
after_part port link harbor = record harbor {
  came = harbor.came ++ (port, link) ∷ [];
  plan = plan_after link.plan.faults harbor.plan;
}

-- after a link came back and was dropped
abbrev pub after_drop : Linking → Harboring → Harboring
after_drop link harbor = record harbor {
  tells = false;
  plan = plan_after link.plan.faults harbor.plan;
}
