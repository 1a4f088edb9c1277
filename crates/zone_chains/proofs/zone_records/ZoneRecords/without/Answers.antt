use Rattle.zone_chains.proofs.ComeLemmas.{GoneTo, gone_by}
use Rattle.zone_chains.proofs.ZoneLemmas.{is_one_zone}
use Rattle.zone_chains.proofs.zone_records.ZoneRecords.without.Goals as goal

gone : (c : goal.After-copy) → GoneTo c.args.self.now c.args.item.now c.copy.result c.in_ok-chains.chains
gone c = gone_by c.self.inside.apex c.copy.result c.self.inside.chains c.in_ok-chains.chains c.args.self.now c.args.item.now c.self.view_is c.self.invariant c.copy.ensures c.requires c.in_ok-chains.ensures

pub invariant_of-result : goal.invariant_of-result
invariant_of-result c = (gone c).chains

pub returns-clause-chains : goal.returns-clause-chains
returns-clause-chains c = (gone c).names

pub returns-clause-records : goal.returns-clause-records
returns-clause-records c = (gone c).members

pub returns-clause-count : goal.returns-clause-count
returns-clause-count c = (gone c).count

pub returns-clause-whole : goal.returns-clause-whole
returns-clause-whole c = is_one_zone _ (gone c).chains
