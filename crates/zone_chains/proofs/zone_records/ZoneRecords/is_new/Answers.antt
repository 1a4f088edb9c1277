use Rattle.std.proofs.Common.{◌∙◌}
use Rattle.zone_chains.proofs.ZoneLemmas.{is_not, new_is}
use Rattle.zone_chains.proofs.zone_records.ZoneRecords.is_new.Goals as goal

pub returns-in_default : goal.returns-in_default
returns-in_default c = is_not _ _ c.is_none.ensures ∙ new_is _ _ _ c.chain_for.ensures c.in_default.not-Set
