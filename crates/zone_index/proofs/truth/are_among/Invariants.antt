use Rattle.std.proofs.Common.{ℕ, ◌<◌, get_or}
use Rattle.zone_index.specs.Truth.{IsAmong}
use Rattle.zone_index.specs.declared.entry.Entry.{Entry}
use Rattle.zone_index.proofs.truth.are_among.Given as goal

abbrev pub invariant-loop-at : goal.invariant-loop-at
invariant-loop-at l = (k : ℕ) (d : Entry) → k < l.at → IsAmong l.items (get_or l.entries k d).octets
