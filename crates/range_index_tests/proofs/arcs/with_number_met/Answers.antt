use Rattle.std.proofs.Common.{refl}
use Rattle.range_index_tests.proofs.arcs.with_number_met.Goals as goal

pub with_met-requires : goal.with_met-requires
with_met-requires c = λ k d within key. refl
