use Rattle.std.proofs.Common.{length, sym, ap, subst, arith, refl}
use Rattle.std.proofs.lemmas.Bool.{false≢true}
use Rattle.zone_meaning.specs.Zone.{IsBelow}
use Rattle.zone_index.proofs.EntryLemmas.{bar_met, shorter_is_below, bar_is_within}
use Rattle.zone_index.proofs.zone_index.ZoneIndex.is_barred.Goals as goal

pub loop-labels-init : goal.loop-labels-init
loop-labels-init c = λ bar is below short. omega (arith, short, ap length c.apex.ensures.value, bar_is_within c.args.self.now c.apex.ensures.zone bar is)

pub returns-then-is_bar : goal.returns-then-is_bar
returns-then-is_bar c =
    let short = c.loop-labels-test.true in
    let below = shorter_is_below c.args.name.now c.loop-labels.labels (omega (arith, short, c.labels-labels-end.ensures.value)) in
    (λ _. (c.last.result, c.if-is_bar.ensures.0 refl, subst (IsBelow c.args.name.now) (sym c.last.ensures) below), λ _. refl)

pub loop-labels-preserved : goal.loop-labels-preserved
loop-labels-preserved c =
    bar_met c.args.self.now c.args.name.now c.last.result c.loop-labels.labels c.loop-labels.invariant c.last.ensures (λ is. false≢true (c.if-is_bar.ensures.1 is))
