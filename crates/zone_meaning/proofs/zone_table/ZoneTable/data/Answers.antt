use Rattle.std.proofs.Common.{subst}
use Rattle.zone_meaning.specs.Zone.{HasType}
use Rattle.zone_meaning.specs.Lookup.{Answer, AnswersAt}
use Rattle.zone_meaning.specs.declared.group.Group.{Group}
use Rattle.zone_meaning.proofs.LookLemmas.{none_or_some}
use Rattle.zone_meaning.proofs.TableLemmas.{data_at, no_data}
use Rattle.zone_meaning.proofs.zone_table.ZoneTable.data.Goals as goal

pub returns-in_err-place-clause-none : goal.returns-in_err-place-clause-none
returns-in_err-place-clause-none c = none_or_some (HasType c.args.self.now c.args.owner.now c.args.rtype → ⊥) c.from_residual.result (no_data c.args.self.now c.groups-groups.result.now c.groups-groups.ensures c.args.owner.now c.args.rtype c.in_err-place.ensures.none)

pub returns-clause-some : goal.returns-clause-some
returns-clause-some c =
    subst (λ (x : Group). AnswersAt c.args.self.now c.args.owner.now c.args.rtype (Answer x.items)) c.index-groups-place.is
    (data_at c.args.self.now c.groups-groups.result.now c.groups-groups.ensures c.args.owner.now c.args.rtype c.in_ok-place.place c.index-groups-place.result c.in_ok-place.ensures.found.0 c.index-groups-place.is c.in_ok-place.ensures.found.1)
