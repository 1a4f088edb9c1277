use Rattle.std.proofs.Common.{◌∙◌}
use Rattle.zone_index.proofs.zone_index.ZoneIndex.is_owner.Goals as goal

pub returns : goal.returns
returns c = rw c.records_of.ensures.zone at (rw (c.records_of.ensures.name ∙ c.lent.ensures) at c.are_some.ensures)
