use Rattle.zone_index.proofs.EntryLemmas.{type_there}
use Rattle.zone_index.proofs.owner_records.OwnerRecords.has_type.Goals as goal

pub returns : goal.returns
returns c = type_there c.args.self.now.zone c.of_type.result.now c.is_empty.result c.is_empty.ensures c.args.self.now.name c.args.rtype c.of_type.ensures
