use Rattle.resolver.proofs.InsertLemmas.{one_insert}
use Rattle.resolver.proofs.QueryLemmas.{one_query}
use Rattle.resolver.proofs.octet_laws.octets_have_one_outcome.Goals as goal

pub returns-clause-queries : goal.returns-clause-queries
returns-clause-queries c = one_query

pub returns-clause-inserts : goal.returns-clause-inserts
returns-clause-inserts c = one_insert
