use Rattle.std.proofs.Common.{◌∙◌, List, ap}
use Rattle.dname.specs.Name.{Label}
use Rattle.dname.specs.Tests.{is_under}
use Rattle.forwarding.proofs.PassedLemmas.{under_is}
use Rattle.forwarding.proofs.passed_names.is_at_or_below.Goals as goal

pub returns : goal.returns
returns c =
    under_is c.args.name.now c.lent.result c.is_under.result c.is_under.ensures
    ∙ ap (λ (top : List Label). is_under c.args.name.now top) c.lent.ensures
