use Rattle.std.proofs.Common.{◌≡◌, ◌-◌, ◌≤◌, length}
use Rattle.cache_versions.specs.Seats.{number_by}
use Rattle.resolver.specs.Caches.{IsSeatOf}
use Rattle.serving.specs.declared.workspace.TheConstants.{AT_ONCE}
use Rattle.serving.specs.AtWork.{IsAtWork, state_of}
use Rattle.serving.specs.Pending.{empty_table}
use Rattle.serving.proofs.work.serve_worker.Given as goal

abbrev pub invariant-loop-left : goal.invariant-loop-left
invariant-loop-left g l = record {
  object : IsSeatOf l.cache l.seat;
  number : number_by l.seat ≡ number_by l.fn.seat;
  datagrams : length l.workspace.datagrams.items ≡ AT_ONCE;
  answers : length l.workspace.answers.items ≡ AT_ONCE;
  port : g.L.Link.port l.link ≡ g.L.Link.port l.fn.link;
  upstream : g.L.Link.upstream l.link ≡ g.L.Link.upstream l.fn.link;
  faults : g.L.Link.faults l.link ≡ g.L.Link.faults l.fn.link;
  few : l.left ≤ l.datagrams;
  at : IsAtWork (l.datagrams - l.left) (g.C.Clock.moment l.clock) (state_of l.fn.seat empty_table (g.L.Link.events l.fn.link)) (state_of l.seat l.workspace.core (g.L.Link.events l.link));
}

abbrev pub decreases-loop-left : goal.decreases-loop-left
decreases-loop-left g l = l.left
