use Rattle.std.proofs.Common.{List, sym, subst}
use Rattle.dname.specs.Name.{Label}
use Rattle.forwarding.specs.Ends.{AreMarksOf}
use Rattle.forwarding.proofs.NameEndLemmas.{marks_push, marks_wider}
use Rattle.forwarding.proofs.passed_names.PassedNames.pass.Goals as goal

pub invariant_of-self : goal.invariant_of-self
invariant_of-self c =
    subst (λ (l : List (List Label)). AreMarksOf c.add.new.self.marks l) (sym c.in_err-push.ensures.items)
    (marks_wider c.self.inside.ends.marks c.add.new.self.marks c.self.inside.names.items c.args.name c.add.ensures.marks c.self.invariant)

pub invariant_of-self-2 : goal.invariant_of-self-2
invariant_of-self-2 c =
    subst (λ (l : List (List Label)). AreMarksOf c.add.new.self.marks l) (sym c.in_ok-push.ensures.items)
    (marks_push c.self.inside.ends.marks c.add.new.self.marks c.self.inside.names.items c.args.name c.add.ensures.name c.add.ensures.marks c.self.invariant)
