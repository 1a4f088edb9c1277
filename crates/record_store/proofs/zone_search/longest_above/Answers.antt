use Rattle.std.proofs.Common.{List, refl, ◌∙◌, ap, subst}
use Rattle.std.specs.Arc.{arc_value}
use Rattle.cache_meaning.specs.Zones.{self_and_above}
use Rattle.dname.specs.Name.{Label, IsUnder, IsCommon}
use Rattle.zone_chains.specs.Zone.{OneZone}
use Rattle.record_store.proofs.LongestLemmas.{none_is_first, last_is_first, first_in_common, first_also}
use Rattle.record_store.proofs.zone_search.longest_above.Goals as goal

pub returns-in_err-last : goal.returns-in_err-last
returns-in_err-last c = rw c.from_residual.ensures (none_is_first c.args.zones.now c.args.name c.in_err-last.ensures)

pub returns-then-is_under : goal.returns-then-is_under
returns-then-is_under c =
    last_is_first c.args.zones.now c.args.name (arc_value c.in_ok-last.last.now) c.in_ok-last.ensures (self_and_above c.args.name) refl
    (subst (IsUnder c.args.name) (c.lent-apex.ensures ∙ c.apex.ensures.apex ∙ ap (λ (zone : OneZone). zone.apex) c.deref.ensures) (c.is_under.ensures.0 c.if-is_under.true))

pub returns : goal.returns
returns c =
    let same = c.lent-apex.ensures ∙ c.apex.ensures.apex ∙ ap (λ (zone : OneZone). zone.apex) c.deref.ensures in
    let common = subst (λ (l : List Label). IsCommon c.args.name l c.common.result) same c.common.ensures in
    first_also (λ zone. arc_value zone.now) c.args.zones.now (self_and_above c.args.name) (self_and_above c.common.result)
    (first_in_common c.args.zones.now c.args.name (arc_value c.in_ok-last.last.now) c.in_ok-last.ensures c.common.result common) c.longest_common.result c.longest_common.ensures
