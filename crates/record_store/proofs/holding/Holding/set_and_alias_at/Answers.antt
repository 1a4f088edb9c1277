use Rattle.std.proofs.Common.{◌∙◌}
use Rattle.std.proofs.lemmas.Option.{IfSome_then}
use Rattle.std.specs.Arc.{arc_value}
use Rattle.std.specs.Option.{option_copied}
use Rattle.dname.specs.declared.types.TheConstants.{CNAME_TYPE}
use Rattle.record_store.proofs.LookUpLemmas.{set_in_view}
use Rattle.record_store.proofs.holding.Holding.set_and_alias_at.Goals as goal

pub returns-clause-set : goal.returns-clause-set
returns-clause-set c =
    set_in_view c.self.inside.goings (arc_value c.self.inside.sets) (arc_value c.self.inside.zones) c.self.invariant _ c.self.view_is
    c.args.zone.now c.args.owner.now c.args.rtype c.list.result.now (c.list.ensures ∙ c.deref.ensures) (option_copied c.set_and_alias_in.result.set) c.set_and_alias_in.ensures.set

pub returns-clause-alias : goal.returns-clause-alias
returns-clause-alias c =
    IfSome_then c.set_and_alias_in.result.alias c.set_and_alias_in.ensures.alias (λ alias chosen.
    set_in_view c.self.inside.goings (arc_value c.self.inside.sets) (arc_value c.self.inside.zones) c.self.invariant _ c.self.view_is
    c.args.zone.now c.args.owner.now CNAME_TYPE c.list.result.now (c.list.ensures ∙ c.deref.ensures) (option_copied alias) chosen)
