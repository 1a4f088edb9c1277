use Rattle.std.proofs.Common.{◌≡◌, length}
use Rattle.intake.specs.Pile.{has_key}
use Rattle.intake.proofs.TableLemmas.{NoneBefore}
use Rattle.intake.proofs.table.first_of.Given as goal

abbrev pub invariant-loop-at : goal.invariant-loop-at
invariant-loop-at l = record {
  none : NoneBefore (has_key l.key) l.piles l.at;
  end : l.at-end ≡ length l.piles;
}
