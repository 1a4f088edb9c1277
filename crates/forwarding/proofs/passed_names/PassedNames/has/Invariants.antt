use Rattle.std.proofs.Common.{◌≡◌, ℕ, ◌<◌, false, [], get_or}
use Rattle.dname.specs.Tests.{is_under}
use Rattle.forwarding.proofs.passed_names.PassedNames.has.Given as goal

-- the name is at or below none before
abbrev pub invariant-loop-i : goal.invariant-loop-i
invariant-loop-i l = (k : ℕ) → k < l.i → is_under l.name (get_or l.self k []) ≡ false
