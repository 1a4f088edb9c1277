use Rattle.std.proofs.Common.{List, ℕ, subst}
use Rattle.dnswire.specs.Query.{IsReadAs}
use Rattle.forwarding.proofs.querying.read.Goals as goal

pub returns : goal.returns
returns c = subst (λ (o : List ℕ). IsReadAs o c.read_query.result) c.as_slice.ensures.value c.read_query.ensures.read
