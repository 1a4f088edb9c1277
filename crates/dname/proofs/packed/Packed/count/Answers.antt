use Rattle.std.proofs.Common.{arith, ap, length}
use Rattle.dname.proofs.PackLemmas.{length-pieces_of}
use Rattle.dname.proofs.packed.Packed.count.Goals as goal

pub overflow_add-count : goal.overflow_add-count
overflow_add-count c =
    omega (arith, length-pieces_of c.self.inside.octets.now, ap length c.self.view_is, ap length c.take_first.ensures, c.self.told)
