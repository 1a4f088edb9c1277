use Rattle.std.proofs.Common.{◌≡◌}
use Rattle.run_audit.proofs.FirstLemmas.{HasWalked}
use Rattle.run_audit.proofs.answering.check_pairs.Given as goal

abbrev pub invariant-loop-pair : goal.invariant-loop-pair
invariant-loop-pair l = record {
  walked : HasWalked l.zone l.pairs l.pair-index l.store l.number l.first;
  search_is : l.search ≡ l.zone;
}
