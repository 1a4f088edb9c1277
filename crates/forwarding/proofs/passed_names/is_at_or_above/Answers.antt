use Rattle.std.proofs.Common.{◌∙◌, List, ap}
use Rattle.dname.specs.Name.{Label}
use Rattle.dname.specs.Tests.{is_under}
use Rattle.forwarding.proofs.PassedLemmas.{under_is}
use Rattle.forwarding.proofs.passed_names.is_at_or_above.Goals as goal

pub returns : goal.returns
returns c =
    under_is c.lent.result c.args.name.now c.is_under.result c.is_under.ensures
    ∙ ap (λ (below : List Label). is_under below c.args.name.now) c.lent.ensures
