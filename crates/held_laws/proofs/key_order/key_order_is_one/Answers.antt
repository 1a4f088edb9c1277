use Rattle.held_laws.proofs.OrderedLemmas.{one_in_key_order}
use Rattle.held_laws.proofs.key_order.key_order_is_one.Goals as goal

pub returns : goal.returns
returns c = one_in_key_order
