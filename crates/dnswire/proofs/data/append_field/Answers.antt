use Rattle.std.proofs.lemmas.Result.{IfOk-weaker}
use Rattle.dnswire.proofs.DataLemmas.{rest_appended}
use Rattle.dnswire.proofs.data.append_field.Goals as goal

pub returns-in-Rest-clause-ok : goal.returns-in-Rest-clause-ok
returns-in-Rest-clause-ok c =
    rw c.in-Rest.is (IfOk-weaker _ _ _ (rest_appended _ _ _ _ _ c.requires.within.0) c.append_octets-in-Rest.ensures)
