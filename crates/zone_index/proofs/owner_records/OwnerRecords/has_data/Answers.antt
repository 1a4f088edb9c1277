use Rattle.zone_index.specs.declared.sought.Sought.TheVariants.{WithData}
use Rattle.zone_index.proofs.EntryLemmas.{data_rise, data_there, within_run}
use Rattle.zone_index.proofs.owner_records.OwnerRecords.has_data.Goals as goal

pub run_in-requires : goal.run_in-requires
run_in-requires c = data_rise c.args.self.now.zone c.args.self.now.name c.entries.result.now c.entries.ensures c.args.rtype c.args.octets

pub returns : goal.returns
returns c =
    data_there c.args.self.now.zone c.run_in.result.now c.is_empty.result c.is_empty.ensures c.args.self.now.name c.args.rtype c.args.octets.now
    (within_run (WithData c.args.rtype c.args.octets) c.args.self.now.zone c.args.self.now.name c.entries.result.now c.run_in.result.now c.entries.ensures c.run_in.ensures.run)
