use Rattle.std.proofs.Common.{◌≡◌, ℕ, ◌<◌, ◌≤◌, true}
use Rattle.waiting_table.specs.Waiting.{slot_at}
use Rattle.waiting_table.specs.Steps.{is_quiet}
use Rattle.waiting_table.proofs.waiting_table.WaitingTable.next_due.Given as goal

-- to no slot before a tick does anything
abbrev pub invariant-loop-slot : goal.invariant-loop-slot
invariant-loop-slot l = (k : ℕ) → l.from ≤ k → k < l.slot → is_quiet l.now (slot_at l.self k) ≡ true
