use Rattle.held_laws.proofs.ReorderLemmas.{after_reordered}
use Rattle.held_laws.proofs.key_order.a_batch_reads_no_order.Goals as goal

pub returns : goal.returns
returns c = after_reordered
