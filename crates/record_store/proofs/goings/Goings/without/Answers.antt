use Rattle.std.proofs.Common.{List, Contains, sym, subst}
use Rattle.denial_records.specs.declared.record.Record.{Record}
use Rattle.record_store.specs.Holding.{AreBut}
use Rattle.record_store.proofs.GoingLemmas.{goings_but, goings_without}
use Rattle.record_store.proofs.goings.Goings.without.Goals as goal

pub invariant_of-result : goal.invariant_of-result
invariant_of-result c = goings_without c.args.gone.now c.self.inside.list c.in_ok-into_without.field-0 c.in_ok-into_without.ensures.made c.self.invariant

pub returns : goal.returns
returns c =
    subst (λ (l : List Record). AreBut c.args.gone.now l c.in_ok-into_without.field-0) c.self.view_is
    (goings_but c.args.gone.now c.self.inside.list c.in_ok-into_without.field-0 c.in_ok-into_without.ensures.made c.self.invariant
    (subst (λ (l : List Record). Contains l c.args.gone.now) (sym c.self.view_is) c.requires))
