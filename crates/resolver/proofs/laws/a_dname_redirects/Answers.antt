use Rattle.resolver.proofs.DnameLemmas.{dname_redirects}
use Rattle.resolver.proofs.laws.a_dname_redirects.Goals as goal

pub returns : goal.returns
returns c = dname_redirects
