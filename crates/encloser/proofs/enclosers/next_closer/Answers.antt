use Rattle.encloser.proofs.EncloserLemmas.{closer_by_count}
use Rattle.encloser.proofs.enclosers.next_closer.Goals as goal

pub returns-clause-one_more : goal.returns-clause-one_more
returns-clause-one_more c =
    closer_by_count c.args.name.now c.args.encloser.now c.last.result c.labels.result c.requires.under c.requires.apart c.labels.ensures.value c.last.ensures
