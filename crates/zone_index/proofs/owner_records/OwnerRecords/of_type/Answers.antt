use Rattle.zone_index.specs.declared.sought.Sought.TheVariants.{OfType}
use Rattle.zone_index.proofs.EntryLemmas.{types_rise, within_run}
use Rattle.zone_index.proofs.owner_records.OwnerRecords.of_type.Goals as goal

pub run_in-requires : goal.run_in-requires
run_in-requires c = types_rise c.args.self.now.zone c.args.self.now.name c.entries.result.now c.entries.ensures c.args.rtype

pub returns : goal.returns
returns c = within_run (OfType c.args.rtype) c.args.self.now.zone c.args.self.now.name c.entries.result.now c.run_in.result.now c.entries.ensures c.run_in.ensures.run
