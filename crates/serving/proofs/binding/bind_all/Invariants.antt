use Rattle.std.proofs.Common.{◌≡◌, length}
use Rattle.std.specs.Prelude.{vec_capacity}
use Rattle.serving.specs.Sight.{AreNew}
use Rattle.serving.proofs.binding.bind_all.Given as goal

abbrev pub invariant-loop-place : goal.invariant-loop-place
invariant-loop-place g l = record {
  many : length l.links.items ≡ l.place;
  new : AreNew l.service.listen l.service.upstream l.links.items;
  came : g.H.Harbor.came_back l.harbor ≡ g.H.Harbor.came_back l.initial.harbor;
  faults : g.H.Harbor.faults l.harbor ≡ g.H.Harbor.faults l.initial.harbor;
  room : vec_capacity l.links ≡ vec_capacity l.initial.links;
}
