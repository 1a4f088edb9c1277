use Rattle.std.proofs.Common.{◌≡◌, ◌++◌, drop}
use Rattle.forwarding.proofs.PassedLemmas.{others_of}
use Rattle.forwarding.proofs.storing.others.Given as goal

-- with the records that are left, those that were kept give the whole
abbrev pub invariant-loop-i : goal.invariant-loop-i
invariant-loop-i l = l.others ++ others_of l.passed (drop l.i l.records) ≡ others_of l.passed l.records
