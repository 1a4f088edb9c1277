use Rattle.std.proofs.Common.{drop, refl, sym, subst, arith}
use Rattle.dnswire.specs.LabelsLeft.{AreNoneLeft}
use Rattle.dnswire.specs.MessageName.{BeginsWithLabel}
use Rattle.dnswire.proofs.NameLabelsLemmas.{left_label, none_label}
use Rattle.dnswire.proofs.name_labels.NameLabels.take.Goals as goal

pub returns-then-self-label-ge-MAX_WIRE-clause-no : goal.returns-then-self-label-ge-MAX_WIRE-clause-no
returns-then-self-label-ge-MAX_WIRE-clause-no c = λ _.
    let stands = subst (λ left. BeginsWithLabel (drop left.at left.message) c.args.label.now) (sym c.self.view_is) c.requires in
    subst AreNoneLeft c.self.view_is (none_label _ c.args.label.now stands c.if-self-label-ge-MAX_WIRE.true)

pub returns-clause-yes : goal.returns-clause-yes
returns-clause-yes c = λ _. left_label _ _ c.args.label.now _ c.self.view_is c.requires refl (omega (arith, c.if-self-label-ge-MAX_WIRE.false))
