use Rattle.waiting_table.proofs.IndexLemmas.{first_free_is}
use Rattle.waiting_table.proofs.waiting_table.WaitingTable.first_free.Goals as goal

pub returns-clause-place : goal.returns-clause-place
returns-clause-place c = rw (← c.self.view_is) (first_free_is c.self.inside.index c.self.inside.held.items c.first_free.result c.self.invariant c.first_free.ensures)
