use Rattle.std.proofs.Common.{◌-◌, List, ◌∷◌, length, sym, ◌∙◌, ap, arith}
use Rattle.dname.specs.Name.{Label}
use Rattle.encloser.specs.Encloser.{ancestors, last_labels}
use Rattle.encloser.proofs.AncestorLemmas.{no_ancestor, fewer_labels}
use Rattle.encloser.proofs.ancestors.AncestorsIterator.next.Goals as goal

pub returns-then-self-clause-steps : goal.returns-then-self-clause-steps
returns-then-self-clause-steps c =
    let name = c.self.inside.name.now in
    let apex = last_labels name c.self.inside.apex_labels in
    let none = sym c.self.view_is ∙ ap (λ k. ancestors (last_labels name k) apex) c.if-self.true ∙ no_ancestor apex in
    (none, none)

pub returns-clause-steps : goal.returns-clause-steps
returns-clause-steps c =
    let name = c.self.inside.name.now in
    let apex_labels = c.self.inside.apex_labels in
    sym c.self.view_is
    ∙ fewer_labels name c.self.inside.labels apex_labels c.self.invariant.0 c.self.invariant.1 c.if-self.false
    ∙ ap (λ (above : List Label). above ∷ ancestors (last_labels name (c.self.inside.labels - 1)) (last_labels name apex_labels)) (sym c.last.ensures)

pub returns-clause-goes : goal.returns-clause-goes
returns-clause-goes c = omega (arith, ap length (returns-clause-steps c))
