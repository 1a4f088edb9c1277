use Rattle.cache_meaning.proofs.ExampleHashes.{of_a, of_d}
use Rattle.cache_meaning.proofs.examples.two_chains.Goals as goal

pub returns-clause-nsec3_is_newer : goal.returns-clause-nsec3_is_newer
returns-clause-nsec3_is_newer c = simp of_a

pub returns-clause-older_serves : goal.returns-clause-older_serves
returns-clause-older_serves c = simp of_d
