use Rattle.std.proofs.Common.{[], ◌++◌}
use Rattle.std.specs.List.{fold}
use Rattle.intake.specs.Pile.{with_data}
use Rattle.intake.proofs.TakeLemmas.{HasSigned}
use Rattle.intake.proofs.grouping.piles_of.Given as goal

abbrev pub invariant-loop-signature : goal.invariant-loop-signature
invariant-loop-signature l = HasSigned (fold with_data [] (l.fn.answer ++ l.fn.authority)) l.yielded l.table
