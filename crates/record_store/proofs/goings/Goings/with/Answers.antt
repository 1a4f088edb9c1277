use Rattle.std.proofs.Common.{List, Contains, subst}
use Rattle.std.specs.Arc.{arc_value}
use Rattle.denial_records.specs.declared.record.Record.{Record}
use Rattle.record_store.specs.Holding.{AreWith}
use Rattle.record_store.proofs.GoingLemmas.{goings_with, goings_with_are}
use Rattle.record_store.proofs.goings.Goings.with.Goals as goal

pub invariant_of-result : goal.invariant_of-result
invariant_of-result c =
    goings_with_are (arc_value c.args.new) c.self.inside.list c.in_ok-into_with.field-0 c.in_ok-into_with.ensures.made (λ item has. c.requires item (subst (λ (l : List Record). Contains l item) c.self.view_is has)) c.self.invariant

pub returns-clause-records : goal.returns-clause-records
returns-clause-records c =
    subst (λ (l : List Record). AreWith (arc_value c.args.new) l c.in_ok-into_with.field-0) c.self.view_is
    (goings_with (arc_value c.args.new) c.self.inside.list c.in_ok-into_with.field-0 c.in_ok-into_with.ensures.made (λ item has. c.requires item (subst (λ (l : List Record). Contains l item) c.self.view_is has)))

pub returns-clause-apart : goal.returns-clause-apart
returns-clause-apart c =
    (goings_with_are (arc_value c.args.new) c.self.inside.list c.in_ok-into_with.field-0 c.in_ok-into_with.ensures.made (λ item has. c.requires item (subst (λ (l : List Record). Contains l item) c.self.view_is has)) c.self.invariant).apart
