use Rattle.std.proofs.Common.{refl, sym, ◌∙◌, arith}
use Rattle.intake.specs.Pile.{has_key}
use Rattle.intake.proofs.TableLemmas.{one_more_fails, first_at, none_at_all}
use Rattle.intake.proofs.table.first_of.Goals as goal

pub returns-then-has : goal.returns-then-has
returns-then-has c =
    sym (first_at (has_key c.args.key.now) c.args.piles.now c.loop-at.at c.index-piles-at.result c.loop-at.invariant.none
    (omega (arith, c.loop-at-test.true, c.loop-at.invariant.end)) c.index-piles-at.is (sym c.has.ensures ∙ c.if-has.true))

pub loop-at-preserved : goal.loop-at-preserved
loop-at-preserved c = record {
  none = one_more_fails (has_key c.args.key.now) c.args.piles.now c.loop-at.at c.index-piles-at.result c.loop-at.invariant.none
      (omega (arith, c.loop-at-test.true, c.loop-at.invariant.end)) c.index-piles-at.is (sym c.has.ensures ∙ c.if-has.false);
  end = refl;
}

pub returns : goal.returns
returns c = sym (none_at_all (has_key c.args.key.now) c.args.piles.now c.loop-at.at c.loop-at.invariant.none (omega (arith, c.loop-at-test.false, c.loop-at.invariant.end)))
