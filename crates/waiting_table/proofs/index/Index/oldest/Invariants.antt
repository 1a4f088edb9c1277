use Rattle.std.proofs.Common.{ℕ, ◌<◌, ◌≤◌, get_or}
use Rattle.waiting_table.proofs.index.Index.oldest.Given as goal

-- of the slots before none was asked first earlier, and of those before it each later
abbrev pub invariant-loop-slot : goal.invariant-loop-slot
invariant-loop-slot l = record {
  within : l.oldest < 256;
  least : (k : ℕ) → k < l.slot → get_or l.self.since l.oldest 0 ≤ get_or l.self.since k 0;
  first : (k : ℕ) → k < l.oldest → get_or l.self.since l.oldest 0 < get_or l.self.since k 0;
}
