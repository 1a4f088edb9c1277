use Rattle.std.proofs.Common.{subst}
use Rattle.serving.specs.Workers.{HasWorkedOver}
use Rattle.serving.proofs.workers.serve_each.Goals as goal

pub returns-clause-each : goal.returns-clause-each
returns-clause-each g c = λ place d lt.
    let at = (c.for_each_mut.ensures place d lt).1 in
    subst (λ t. t) (λ i. HasWorkedOver c.args.cache.now c.args.datagrams (g.C.Clock.moment c.args.clock.now) (at.argument_is i).seat (at.left i).seat (at.argument_is i).link (at.left i).link (at.left i).ended) at.call
