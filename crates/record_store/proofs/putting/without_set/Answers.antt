use Rattle.std.specs.Arc.{arc_value}
use Rattle.std.proofs.Common.{sym, ◌∙◌, ap, subst, refl, Contains, option_map}
use Rattle.std.proofs.lemmas.Result.{IfOk-weaker}
use Rattle.denial_records.specs.declared.record.Record.{Record}
use Rattle.record_store.specs.Holding.{AreBut, AreCleared}
use Rattle.record_store.proofs.SetLemmas.{cleared_none, cleared_some, old_there}
use Rattle.record_store.proofs.putting.without_set.Goals as goal

pub without-requires : goal.without-requires
without-requires c =
    subst (Contains c.args.goings) (sym c.deref.ensures)
    (old_there c.args.goings c.args.sets.now c.requires.apart c.requires.sets c.args.new.now c.requires.set (arc_value c.in-Some.old) (sym c.requires.old ∙ ap (option_map (λ o. arc_value o)) c.in-Some.is))

pub returns-in-Some : goal.returns-in-Some
returns-in-Some c =
    let old = arc_value c.in-Some.old in
    IfOk-weaker c.without.result _ (λ left. AreCleared c.args.new.now c.args.goings left)
    (λ left but. cleared_some c.args.goings c.args.sets.now c.requires.apart c.requires.sets c.args.new.now c.requires.set old (sym c.requires.old ∙ ap (option_map (λ o. arc_value o)) c.in-Some.is) left
    (subst (λ (r : Record). AreBut r c.args.goings left) c.deref.ensures but)) c.without.ensures

pub returns-in-None : goal.returns-in-None
returns-in-None c =
    cleared_none c.args.goings c.args.sets.now c.requires.apart c.requires.sets c.args.new.now c.requires.set (sym c.requires.old ∙ ap (option_map (λ o. arc_value o)) c.in-None.is) c.args.goings refl
