use Rattle.std.proofs.Common.{◌-◌, ◌≤◌, length, refl, sym, ap, subst, arith}
use Rattle.std.proofs.lemmas.Bool.{false≢true}
use Rattle.dname.specs.Name.{IsUnder}
use Rattle.dname.proofs.UnderLemmas.{under_drop}
use Rattle.zone_index.proofs.TruthLemmas.{free_by, not_free, free_outside, none_clashes, last_long}
use Rattle.zone_index.proofs.truth.is_clash_free.Goals as goal

pub returns-then-not-is_under : goal.returns-then-not-is_under
returns-then-not-is_under c = (
  λ _. free_outside c.args.zone.now c.args.table.now.salt c.args.table.now.iterations c.args.table.now c.requires c.args.name.now (λ under. false≢true (c.if-not-is_under.ensures.1 (subst (IsUnder c.args.name.now) (sym c.apex-apex.ensures.value) under))),
  λ _. refl,
)

pub clashes-requires-clause-under : goal.clashes-requires-clause-under
clashes-requires-clause-under c = subst (IsUnder c.args.name.now) (sym c.last.ensures) (under_drop (length c.args.name.now - c.loop-labels.labels) c.args.name.now)

pub loop-labels-preserved : goal.loop-labels-preserved
loop-labels-preserved c =
    none_clashes c.args.table.now c.args.name.now c.last.result _ c.loop-labels.labels c.loop-labels.invariant c.last.ensures (λ found. false≢true (c.if-clashes.ensures.1 found))

pub returns-then-clashes : goal.returns-then-clashes
returns-then-clashes c =
    let under = subst (IsUnder c.args.name.now) (sym c.last.ensures) (under_drop (length c.args.name.now - c.loop-labels.labels) c.args.name.now) in
    let up = subst (IsUnder c.args.name.now) c.apex-apex.ensures.value (c.if-not-is_under.ensures.0 refl) in
    let long = last_long c.args.name.now c.last.result c.loop-labels.labels (omega (arith, c.loop-labels-test.true, c.labels-labels-end.ensures.value)) c.last.ensures in
    let low : length c.args.zone.now.apex ≤ length c.last.result = omega (arith, long, c.loop-labels.auto.labels, c.labels-labels.ensures.value, ap length c.apex-apex.ensures.value) in (
      λ e. absurd (false≢true e),
      λ free. absurd (not_free c.args.zone.now c.args.table.now.salt c.args.table.now.iterations c.args.table.now c.requires c.args.name.now c.last.result up under low (c.if-clashes.ensures.0 refl) free),
    )

pub returns : goal.returns
returns c = (
  λ _. free_by c.args.zone.now c.args.table.now.salt c.args.table.now.iterations c.args.table.now c.requires c.args.name.now (λ above under long short. c.loop-labels.invariant above under long (omega (arith, short, c.loop-labels-test.false, c.labels-labels-end.ensures.value))),
  λ _. refl,
)
