use Rattle.std.proofs.Common.{refl}
use Rattle.range_index_tests.proofs.arcs.mark_at.Goals as goal

pub at-requires : goal.at-requires
at-requires g c = λ k d within key. refl
