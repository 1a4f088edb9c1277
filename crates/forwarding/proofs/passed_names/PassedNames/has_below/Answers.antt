use Rattle.std.proofs.Common.{List, length, ap, arith}
use Rattle.dname.specs.Name.{Label}
use Rattle.dname.specs.Tests.{is_under}
use Rattle.forwarding.proofs.PassedLemmas.{none_passes}
use Rattle.forwarding.proofs.passed_names.PassedNames.has_below.Goals as goal

pub returns : goal.returns
returns c =
    let size = ap (λ (l : List (List Label)). length l) c.self.view_is in
    none_passes (λ (top : List Label). is_under top c.args.name.now) c.args.self.now (λ k h. c.loop-i.invariant k (omega (arith, c.len-i-end.ensures)))
