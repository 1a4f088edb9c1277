use Rattle.std.proofs.Common.{◌≡◌, ◌-◌, length}
use Rattle.forwarding.specs.ExtendedError.{errors_after, errors_in}
use Rattle.forwarding.proofs.passed_errors.errors_in.Given as goal

-- what the options that are left give behind what was taken is what all give
abbrev pub invariant-loop-passed : goal.invariant-loop-passed
invariant-loop-passed l = errors_after (length l.octets - l._passed) l.room l.rest l.errors.items ≡ errors_in l.room l.octets
