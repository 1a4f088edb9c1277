use Rattle.std.proofs.Common.{subst, length, ◌≤◌}
use Rattle.dname.proofs.WireLemmas.{few_labels}
use Rattle.dname.proofs.name.Name.all_labels.Goals as goal

pub returns-clause-few : goal.returns-clause-few
returns-clause-few c = subst (λ labels. length labels ≤ 127) c.self.view_is (few_labels _ c.self.invariant.name)
