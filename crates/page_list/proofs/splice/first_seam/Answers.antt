use Rattle.page_list.proofs.Rows.{IsSeam-at}
use Rattle.page_list.proofs.splice.first_seam.Goals as goal

pub returns-then-inner : goal.returns-then-inner
returns-then-inner g c = IsSeam-at _ _ _ _ _ c.place.ensures
