use Rattle.std.proofs.Common.{List, length, sym, subst, arith, ◌↔◌, ◌⊎◌, ◌≤◌}
use Rattle.dname.specs.Name.{Label, IsUnder, IsCommon}
use Rattle.zone_index.specs.Hashes.{IsNamed}
use Rattle.zone_index.proofs.HashLemmas.{pushed_one, pushed_all}
use Rattle.zone_index.proofs.hash_table.push_ancestors.Goals as goal

pub loop-labels-preserved : goal.loop-labels-preserved
loop-labels-preserved c =
    let whole = c.name-whole.result in
    let common = subst (λ (n : List Label). IsCommon whole n c.common-name.result) c.lent.ensures (subst (λ (n : List Label). IsCommon n c.lent.result c.common-name.result) (sym c.name-whole.ensures) c.common-name.ensures) in
    pushed_one c.args.salt.now c.args.iterations whole c.args.from c.args.names.now.items c.loop-labels.labels c.loop-labels.names.items c.push.new.self.items _ c.last-other.result c.loop-labels.invariant c.in_ok-push.ensures.items c.last-other.ensures common c.hash_name-hash.ensures c.loop-labels.auto.labels (omega (arith, c.loop-labels-test.true, c.labels-labels-end.ensures.value))

pub returns-clause-named : goal.returns-clause-named
returns-clause-named c =
    subst (λ (n : List Label). (other : List Label) → IsNamed c.loop-labels.names.items other ↔ (IsNamed c.args.names.now.items other ⊎ (IsUnder n other × (c.args.from ≤ length other)))) c.name-whole.ensures
    (pushed_all c.args.salt.now c.args.iterations c.name-whole.result c.args.from c.args.names.now.items c.loop-labels.labels c.loop-labels.names.items c.loop-labels.invariant (omega (arith, c.loop-labels-test.false, c.labels-labels-end.ensures.value)))
