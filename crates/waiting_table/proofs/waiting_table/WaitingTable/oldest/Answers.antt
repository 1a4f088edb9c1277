use Rattle.waiting_table.proofs.IndexLemmas.{oldest_is, full_at}
use Rattle.waiting_table.proofs.waiting_table.WaitingTable.oldest.Goals as goal

pub returns-clause-place : goal.returns-clause-place
returns-clause-place c = rw (← c.self.view_is) (oldest_is c.self.inside.index c.self.inside.held.items c.oldest.result c.self.invariant c.oldest.ensures (full_at c.self.inside.held.items (rw c.self.view_is c.requires) c.self.invariant.all))
