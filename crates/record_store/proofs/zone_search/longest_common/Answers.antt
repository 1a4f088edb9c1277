use Rattle.std.proofs.Common.{List, true≢false, sym, ◌∙◌, ap, subst}
use Rattle.std.specs.Arc.{arc_value}
use Rattle.cache_meaning.specs.Zones.{self_and_above}
use Rattle.dname.specs.Name.{Label, IsUnder, IsCommon}
use Rattle.zone_chains.specs.Zone.{OneZone}
use Rattle.record_store.proofs.LongestLemmas.{none_is_first, last_is_first, first_in_common, common_is_shorter}
use Rattle.record_store.proofs.zone_search.longest_common.Goals as goal

pub returns-in_err-last : goal.returns-in_err-last
returns-in_err-last c =
    rw c.from_residual.ensures (c.loop-last.invariant ∙ none_is_first c.args.zones.now c.loop-last.name c.in_err-last.ensures)

pub returns-then-is_under : goal.returns-then-is_under
returns-then-is_under c =
    last_is_first c.args.zones.now c.loop-last.name (arc_value c.in_ok-last.last.now) c.in_ok-last.ensures (self_and_above c.args.name) c.loop-last.invariant
    (subst (IsUnder c.loop-last.name) (c.lent-apex.ensures ∙ c.apex.ensures.apex ∙ ap (λ (zone : OneZone). zone.apex) c.deref.ensures) (c.is_under.ensures.0 c.if-is_under.true))

pub loop-last-preserved : goal.loop-last-preserved
loop-last-preserved c =
    let same = c.lent-apex.ensures ∙ c.apex.ensures.apex ∙ ap (λ (zone : OneZone). zone.apex) c.deref.ensures in
    let common = subst (λ (l : List Label). IsCommon c.loop-last.name l c.common-name.result) same c.common-name.ensures in
    c.loop-last.invariant ∙ first_in_common c.args.zones.now c.loop-last.name (arc_value c.in_ok-last.last.now) c.in_ok-last.ensures c.common-name.result common

pub loop-last-smaller : goal.loop-last-smaller
loop-last-smaller c =
    let same = c.lent-apex.ensures ∙ c.apex.ensures.apex ∙ ap (λ (zone : OneZone). zone.apex) c.deref.ensures in
    let common = subst (λ (l : List Label). IsCommon c.loop-last.name l c.common-name.result) same c.common-name.ensures in
    let tested = c.lent-apex.ensures ∙ c.apex.ensures.apex ∙ ap (λ (zone : OneZone). zone.apex) c.deref.ensures in
    common_is_shorter c.args.zones.now c.loop-last.name (arc_value c.in_ok-last.last.now) c.in_ok-last.ensures c.common-name.result common
    (λ under. true≢false (sym (c.is_under.ensures.1 (subst (IsUnder c.loop-last.name) (sym tested) under)) ∙ c.if-is_under.false))
