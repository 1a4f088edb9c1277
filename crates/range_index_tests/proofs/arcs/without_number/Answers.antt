use Rattle.std.proofs.Common.{refl}
use Rattle.range_index_tests.proofs.arcs.without_number.Goals as goal

pub without-requires : goal.without-requires
without-requires c = λ k d within key. refl
