use Rattle.std.proofs.Common.{◌≡◌, None}
use Rattle.stream_front.specs.Split.{too_small_in}
use Rattle.stream_front_tests.proofs.reads.read_by.Given as goal

abbrev pub invariant-loop : goal.invariant-loop
invariant-loop l = too_small_in l.front ≡ None
