use Rattle.dnswire.proofs.NameLabelsLemmas.{left_pointer}
use Rattle.dnswire.proofs.name_labels.NameLabels.follow.Goals as goal

pub returns-clause-yes : goal.returns-clause-yes
returns-clause-yes c = λ _. left_pointer _ _ c.args.offset _ c.self.view_is c.requires c.if-offset-self.false c.unwrap_or.ensures
