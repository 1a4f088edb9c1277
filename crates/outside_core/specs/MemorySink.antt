-- A sink in memory, of whose calls some fail.
use Rattle.std.specs.Prelude.{ℕ, ◌+◌, ◌<◌, ◌⊎◌, List, ◌++◌, length}
use Rattle.outside_core.specs.FaultPlan.{Plan, IsDue, after_success, after_fault}

-- what was written, how many octets there may be in all, and which calls fail
pub record Writing : Type 0 where
  pub written : List ℕ
  pub room : ℕ
  pub plan : Plan

-- a call with this piece fails: its number is one of those that do, or the piece goes beyond the room
abbrev pub Refuses : Writing → List ℕ → Type 0
Refuses writing piece = IsDue writing.plan ⊎ (writing.room < length writing.written + length piece)

-- after a call that took the piece
abbrev pub after_write : List ℕ → Writing → Writing
after_write piece writing = record writing {
  written = writing.written ++ piece;
  plan = after_success writing.plan;
}

-- after a call that failed
abbrev pub after_failed_write : Writing → Writing
after_failed_write writing = record writing { plan = after_fault writing.plan }
