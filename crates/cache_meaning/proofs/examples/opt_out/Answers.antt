use Rattle.cache_meaning.proofs.ExampleHashes.{of_apex, of_a, of_d, of_wildcard}
use Rattle.cache_meaning.proofs.examples.opt_out.Goals as goal

pub returns-clause-matched : goal.returns-clause-matched
returns-clause-matched c = simp of_a

pub returns-clause-covered : goal.returns-clause-covered
returns-clause-covered c = simp (of_d, of_apex, of_wildcard)

pub returns-clause-in_a_span : goal.returns-clause-in_a_span
returns-clause-in_a_span c = simp of_d
