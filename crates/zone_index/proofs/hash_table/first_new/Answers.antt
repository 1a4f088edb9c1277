use Rattle.std.proofs.Common.{[], List, length, get_or, ap, subst, ◌∙◌, arith}
use Rattle.dname.specs.Name.{Label, IsCommon}
use Rattle.zone_index.proofs.HashLemmas.{known_by_common}
use Rattle.zone_index.proofs.hash_table.first_new.Goals as goal

pub returns-else-known-apex-clause-known : goal.returns-else-known-apex-clause-known
returns-else-known-apex-clause-known c =
    let live = c.args.live.now in
    let at = c.args.at in
    let common = subst (λ (n : List Label). IsCommon (get_or live at []) n c.common.result) (c.get-2.ensures []) (subst (λ (n : List Label). IsCommon n c.get-2.result.now c.common.result) (c.get.ensures []) c.common.ensures) in
    let long = c.labels-known.ensures.value ∙ ap length c.name.ensures in
    known_by_common live at c.args.apex _ c.common.result c.if-at-eq0.false common (omega (arith, long))
