use Rattle.std.proofs.Common.{refl}
use Rattle.range_index_tests.proofs.arcs.number_at.Goals as goal

pub at-requires : goal.at-requires
at-requires c = λ k d within key. refl
