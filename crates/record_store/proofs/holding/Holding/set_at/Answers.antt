use Rattle.std.proofs.Common.{◌∙◌}
use Rattle.std.specs.Arc.{arc_value}
use Rattle.std.specs.Option.{option_copied}
use Rattle.record_store.proofs.LookUpLemmas.{set_in_view}
use Rattle.record_store.proofs.holding.Holding.set_at.Goals as goal

pub returns : goal.returns
returns c =
    set_in_view c.self.inside.goings (arc_value c.self.inside.sets) (arc_value c.self.inside.zones) c.self.invariant _ c.self.view_is
    c.args.zone.now c.args.owner.now c.args.rtype c.list.result.now (c.list.ensures ∙ c.deref.ensures) (option_copied c.set_in.result) c.set_in.ensures
