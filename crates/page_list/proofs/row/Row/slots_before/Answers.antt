use Rattle.page_list.proofs.Slots.{seen_before}
use Rattle.page_list.proofs.row.Row.slots_before.Goals as goal

pub returns : goal.returns
returns g c = seen_before _ _ _ _ _ c.items_before.ensures c.as_slice.ensures.value c.self.view_is
