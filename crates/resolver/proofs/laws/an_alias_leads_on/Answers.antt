use Rattle.resolver.proofs.AliasLemmas.{leads_on}
use Rattle.resolver.proofs.laws.an_alias_leads_on.Goals as goal

pub returns : goal.returns
returns c = leads_on
