use Rattle.std.proofs.Common.{refl}
use Rattle.range_index_tests.proofs.arcs.with_number.Goals as goal

pub with-requires : goal.with-requires
with-requires c = λ k d within key. refl
