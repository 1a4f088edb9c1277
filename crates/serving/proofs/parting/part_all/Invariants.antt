use Rattle.std.proofs.Common.{◌≡◌, ◌++◌, length}
use Rattle.std.specs.Vec.Iter.{into_iter_items, into_iter_len}
use Rattle.serving.specs.Back.{CameBack}
use Rattle.serving.specs.Sight.{AreBack, IsCounted, faults_of}
use Rattle.serving.proofs.parting.part_all.Given as goal

abbrev pub invariant-loop-link : goal.invariant-loop-link
invariant-loop-link g l = record {
  rest : l.yielded ++ into_iter_items l.link-iterator ≡ into_iter_items l.initial.link-iterator;
  len : into_iter_len l.link-iterator ≡ length (into_iter_items l.link-iterator);
  came : CameBack (g.H.Harbor.came_back l.initial.harbor) (g.H.Harbor.came_back l.harbor) (AreBack l.yielded);
  counted : IsCounted (faults_of l.yielded) (g.H.Harbor.faults l.initial.harbor) (g.H.Harbor.faults l.harbor);
}
