use Rattle.std.proofs.Common.{◌≡◌, ℕ, ◌<◌, false}
use Rattle.waiting_table.specs.Waiting.{slot_at, takes}
use Rattle.waiting_table.proofs.waiting_table.WaitingTable.joinable.Given as goal

-- no slot before takes the question
abbrev pub invariant-loop-slot : goal.invariant-loop-slot
invariant-loop-slot l = (k : ℕ) → k < l.slot → takes l.question (slot_at l.self k) ≡ false
