use Rattle.zone_index.proofs.EntryLemmas.{owner_there}
use Rattle.zone_index.proofs.owner_records.OwnerRecords.are_some.Goals as goal

pub returns : goal.returns
returns c = owner_there c.args.self.now.zone c.entries.result.now c.is_empty.result c.is_empty.ensures c.args.self.now.name c.entries.ensures.finds
