use Rattle.dnswire.proofs.QueryLemmas.{one_read}
use Rattle.dnswire.proofs.query_read.read_query.Goals as goal

pub returns-clause-every : goal.returns-clause-every
returns-clause-every c read is = one_read _ _ read c.read_question.ensures is
