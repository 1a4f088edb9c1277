use Rattle.std.proofs.Common.{◌≡◌, ℕ, ◌<◌, false, [], get_or}
use Rattle.dname.specs.Tests.{is_under}
use Rattle.forwarding.proofs.passed_names.PassedNames.has_below.Given as goal

-- none before is at or below the name
abbrev pub invariant-loop-i : goal.invariant-loop-i
invariant-loop-i l = (k : ℕ) → k < l.i → is_under (get_or l.self k []) l.name ≡ false
