use Rattle.std.proofs.Common.{◌≡◌, map, take}
use Rattle.outside_core.specs.declared.event.Event.TheVariants.{Sent}
use Rattle.serving.specs.AtWork.{due_of}
use Rattle.serving.specs.Worker.{more_told}
use Rattle.serving.proofs.round.send_all.Given as goal

abbrev pub invariant-loop-answer : goal.invariant-loop-answer
invariant-loop-answer g l = record {
  sent : g.L.Link.events l.link ≡ more_told (g.L.Link.events l.fn.link) (map Sent (due_of (take l.answer-index l.answers)));
  port : g.L.Link.port l.link ≡ g.L.Link.port l.fn.link;
  upstream : g.L.Link.upstream l.link ≡ g.L.Link.upstream l.fn.link;
  faults : g.L.Link.faults l.link ≡ g.L.Link.faults l.fn.link;
}
