use Rattle.resolver.proofs.HeldLemmas.{stores}
use Rattle.resolver.proofs.octet_laws.stores_reply_as_held.Goals as goal

pub returns : goal.returns
returns c = stores
