use Rattle.std.proofs.Common.{subst}
use Rattle.zone_chains.specs.Zone.{IsOneZone}
use Rattle.zone_chains.proofs.ZoneLemmas.{is_one_zone}
use Rattle.zone_chains.proofs.zone_records.ZoneRecords.apex.Goals as goal

pub returns-clause-zone : goal.returns-clause-zone
returns-clause-zone c = subst IsOneZone c.self.view_is (is_one_zone _ c.self.invariant)
