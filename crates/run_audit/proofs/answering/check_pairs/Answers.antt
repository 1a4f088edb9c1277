use Rattle.std.proofs.Common.{Some, refl, ap, ◌∙◌}
use Rattle.run_audit.proofs.FirstLemmas.{walked_none, walked_all, wrong_at, right_at, faulty_at, placed_at}
use Rattle.run_audit.proofs.answering.check_pairs.Goals as goal
use Rattle.run_audit.proofs.answering.check_pairs.Goals.{in-Right, in-Faulty, in-Placed+in_ok-store-in-Placed}

pub loop-pair-init : goal.loop-pair-init
loop-pair-init c = record {
  walked = walked_none _ _ _ _ c.in_ok-store.ensures refl;
  search_is = c.in_ok-search.ensures;
}

pub returns-in-Wrong : goal.returns-in-Wrong
returns-in-Wrong c = λ answers.
    wrong_at _ _ _ _ _ _ _ _ c.loop-pair.invariant.walked c.loop-pair-test.true _ c.loop-pair.invariant.search_is c.in_ok-check_pair.ensures.checked c.in-Wrong.is c.requires.ranked c.requires.turns answers

pub loop-pair-preserved : goal.loop-pair-preserved
loop-pair-preserved c = record {
  walked = elim c.match-branch-4.branch [
    | in-Right w ↦
        right_at _ _ _ _ _ _ _ _ c.loop-pair.invariant.walked c.loop-pair-test.true _ c.loop-pair.invariant.search_is c.in_ok-check_pair.ensures.checked
        _ _ _ w.in-Right.is w.store-is w.number-is w.first-is
    | in-Faulty w ↦
        faulty_at _ _ _ _ _ _ _ _ c.loop-pair.invariant.walked c.loop-pair-test.true _ c.loop-pair.invariant.search_is c.in_ok-check_pair.ensures.checked
        _ _ _ _ w.in-Faulty.is w.store-is w.number-is (w.first-is ∙ ap Some w.earlier.ensures)
    | in-Placed+in_ok-store-in-Placed w ↦
        placed_at _ _ _ _ _ _ _ _ c.loop-pair.invariant.walked c.loop-pair-test.true _ c.loop-pair.invariant.search_is c.in_ok-check_pair.ensures.checked
        _ _ _ _ w.in-Placed.is (w.store-is ∙ w.in_ok-store-in-Placed.ensures) w.number-is w.first-is
  ];
  search_is = c.in_ok-check_pair.ensures.same ∙ c.loop-pair.invariant.search_is;
}

pub returns : goal.returns
returns c = walked_all _ _ _ _ _ _ c.loop-pair.invariant.walked c.loop-pair.auto.pair-index-end c.loop-pair-test.false
