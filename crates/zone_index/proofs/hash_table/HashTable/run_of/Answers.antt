use Rattle.zone_index.proofs.hash_table.HashTable.run_of.Goals as goal

pub returns : goal.returns
returns c = rw c.as_slice.ensures.value at c.run_in.ensures
