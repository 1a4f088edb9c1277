use Rattle.resolver.proofs.StepLemmas.{under_if_some, suffix_if_some}
use Rattle.resolver.proofs.dname_step.dname_above.Goals as goal

pub returns-clause-under : goal.returns-clause-under
returns-clause-under c = under_if_some c.args.zone.now.held c.args.now c.args.zone.now.apex c.args.name.now c.topmost_dname.result c.topmost_dname.ensures

pub returns-clause-suffix : goal.returns-clause-suffix
returns-clause-suffix c = suffix_if_some c.args.zone.now.held c.args.now c.args.zone.now.apex c.args.name.now c.topmost_dname.result c.topmost_dname.ensures
