use Rattle.std.proofs.Common.{ap}
use Rattle.zone_meaning.specs.Zone.{Zone}
use Rattle.zone_index.proofs.EntryLemmas.{owners_of, owners_rise}
use Rattle.zone_index.proofs.zone_index.ZoneIndex.run_of.Goals as goal

pub run_in-requires : goal.run_in-requires
run_in-requires c = owners_rise c.args.name c.entries.result.now c.entries.ensures.indexed.sorted

pub returns : goal.returns
returns c =
    owners_of c.args.name c.args.self.now c.entries.result.now c.run_in.result.now (ap (λ (z : Zone). z.records) c.entries.ensures.records) c.run_in.ensures.run (c.run_in.ensures.sorted c.entries.ensures.indexed.sorted)
