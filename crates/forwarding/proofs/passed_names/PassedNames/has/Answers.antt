use Rattle.std.proofs.Common.{List, length, subst, ap, arith}
use Rattle.dname.specs.Name.{Label}
use Rattle.dname.specs.Tests.{is_under}
use Rattle.forwarding.specs.Ends.{AreMarksOf}
use Rattle.forwarding.proofs.NameEndLemmas.{none_above}
use Rattle.forwarding.proofs.PassedLemmas.{none_passes}
use Rattle.forwarding.proofs.passed_names.PassedNames.has.Goals as goal

pub returns-then-not-has : goal.returns-then-not-has
returns-then-not-has c =
    let marks = subst (λ (l : List (List Label)). AreMarksOf c.self.inside.ends.marks l) c.self.view_is c.self.invariant in
    none_passes (is_under c.args.name.now) c.args.self.now (none_above c.self.inside.ends.marks c.args.self.now c.args.name.now c.has.result marks c.has.ensures c.if-not-has.true)

pub returns : goal.returns
returns c =
    let size = ap (λ (l : List (List Label)). length l) c.self.view_is in
    none_passes (is_under c.args.name.now) c.args.self.now (λ k h. c.loop-i.invariant k (omega (arith, c.len-i-end.ensures)))
