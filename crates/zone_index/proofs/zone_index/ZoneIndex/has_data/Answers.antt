use Rattle.std.proofs.Common.{◌∙◌}
use Rattle.zone_index.proofs.zone_index.ZoneIndex.has_data.Goals as goal

pub returns : goal.returns
returns c = rw c.records_of.ensures.zone at (rw (c.records_of.ensures.name ∙ c.lent.ensures) at c.has_data.ensures)
