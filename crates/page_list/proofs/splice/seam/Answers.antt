use Rattle.std.proofs.Common.{arith}
use Rattle.page_list.proofs.Rows.{IsSeam-behind, IsSeam-at_zero}
use Rattle.page_list.proofs.splice.seam.Goals as goal

pub returns : goal.returns
returns g c = IsSeam-behind _ _ _ _ _ c.place-p.ensures (omega arith)

pub returns-then-at-eq0 : goal.returns-then-at-eq0
returns-then-at-eq0 g c = IsSeam-at_zero _ _ _ c.if-at-eq0.true c.requires.some
