use Rattle.std.proofs.Common.{◌≡◌, length, take}
use Rattle.cache_versions.specs.Seats.{number_by}
use Rattle.resolver.specs.Caches.{IsSeatOf}
use Rattle.serving.specs.AtWork.{DoesSome, due_of}
use Rattle.serving.specs.Serves.{IsUnmoved}
use Rattle.serving.proofs.round.do_all.Given as goal

abbrev pub invariant-loop-i : goal.invariant-loop-i
invariant-loop-i g l = record {
  object : IsSeatOf l.cache l.seat;
  number : number_by l.seat ≡ number_by l.fn.seat;
  room : length l.answers.items ≡ length l.fn.answers.items;
  done : DoesSome (g.C.Clock.moment l.clock) l.fn.seat l.seat l.fn.core l.core (take l.i l.datagrams) (due_of (take l.i l.answers.items));
  first : l.i ≡ 0 → IsUnmoved l.fn.seat l.seat;
}
