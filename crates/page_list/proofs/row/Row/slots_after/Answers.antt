use Rattle.page_list.proofs.Slots.{seen_from}
use Rattle.page_list.proofs.row.Row.slots_after.Goals as goal

pub returns : goal.returns
returns g c = seen_from _ _ _ _ _ c.items_from.ensures c.as_slice.ensures.value c.self.view_is
