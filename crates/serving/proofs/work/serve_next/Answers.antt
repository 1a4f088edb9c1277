use Rattle.std.proofs.Common.{◌≡◌, ◌∙◌, length, map, take, ap, subst, sym, arith}
use Rattle.std.proofs.lemmas.List.{length-take-le}
use Rattle.outside_core.specs.declared.event.Event.TheVariants.{Sent}
use Rattle.serving.specs.declared.serve_fault.ServeFault.TheVariants.{Link, OutOfMemory}
use Rattle.serving.specs.AtWork.{Halts, IsSentInPart, came_as, due_of, state_of}
use Rattle.serving.specs.Worker.{more_told}
use Rattle.serving.proofs.RoundLemmas.{none_came, not_all_sent, one_lost, round_done}
use Rattle.serving.proofs.WorkerLemmas.{if_err}
use Rattle.serving.proofs.work.serve_next.Goals as goal

pub returns-in_err-count-clause-halts : goal.returns-in_err-count-clause-halts
returns-in_err-count-clause-halts g c =
    let moment = g.C.Clock.moment c.args.clock.now in
    let events = g.L.Link.events c.args.link.now in
    let events' = g.L.Link.events c.receive_some.new.link in
    let core = c.args.workspace.now.core in
    let state = state_of c.args.seat.now core events in
    if_err (λ e. e ≡ Link) _ c.from_residual.result c.from_residual.ensures.1
    (λ e is. subst (Halts c.args.most moment state (state_of c.args.seat.now core events')) (sym is)
    (none_came c.args.most moment state core events' c.requires.some c.in_err-count.ensures.failed))

pub returns-in_err-do_all-clause-halts : goal.returns-in_err-do_all-clause-halts
returns-in_err-do_all-clause-halts g c =
    let moment = g.C.Clock.moment c.args.clock.now in
    let events = g.L.Link.events c.args.link.now in
    let events' = g.L.Link.events c.receive_some.new.link in
    let first : c.first.result.now ≡ take c.in_ok-count.count c.receive_some.new.datagrams.items = subst (λ l. c.first.result.now ≡ take c.in_ok-count.count l) c.deref.ensures.value c.first.ensures in
    let state = state_of c.args.seat.now c.args.workspace.now.core events in
    let state' = state_of c.do_all.new.seat c.do_all.new.core events' in
    if_err (λ e. e ≡ OutOfMemory) _ c.from_residual-in_err-do_all.result c.from_residual-in_err-do_all.ensures.1
    (λ e is. subst (Halts c.args.most moment state state') (sym is)
    (one_lost c.args.most moment state state' c.first.result.now
    c.requires.some c.in_err-do_all.ensures.one (subst (λ l. events' ≡ more_told events (came_as l)) (sym first) c.in_ok-count.ensures.came) c.in_err-do_all.ensures.unmoved))

pub returns-in_err-send_all-clause-halts : goal.returns-in_err-send_all-clause-halts
returns-in_err-send_all-clause-halts g c =
    let count = c.in_ok-count.count in
    let moment = g.C.Clock.moment c.args.clock.now in
    let events = g.L.Link.events c.args.link.now in
    let events1 = g.L.Link.events c.receive_some.new.link in
    let events2 = g.L.Link.events c.send_all.new.link in
    let came = c.first.result.now in
    let first : came ≡ take count c.receive_some.new.datagrams.items = subst (λ l. came ≡ take count l) c.deref.ensures.value c.first.ensures in
    let many : length came ≡ count = ap length first ∙ length-take-le count c.receive_some.new.datagrams.items c.in_ok-count.ensures.within in
    let due' = due_of (take (length came) c.do_all.new.answers.items) in
    let answered : c.first-2.result.now ≡ take count c.do_all.new.answers.items = subst (λ l. c.first-2.result.now ≡ take count l) c.deref-2.ensures.value c.first-2.ensures in
    let same : due_of c.first-2.result.now ≡ due' = ap due_of (subst (λ k. c.first-2.result.now ≡ take k c.do_all.new.answers.items) (sym many) answered) in
    let state = state_of c.args.seat.now c.args.workspace.now.core events in
    let state' = state_of c.do_all.new.seat c.do_all.new.core events2 in
    if_err (λ e. e ≡ Link) _ c.from_residual-in_err-send_all.result c.from_residual-in_err-send_all.ensures.1
    (λ e is. subst (Halts c.args.most moment state state') (sym is)
    (not_all_sent c.args.most moment state state' events1 came due'
    (omega (arith, many, c.in_ok-count.ensures.some)) (omega (arith, many, c.in_ok-count.ensures.most))
    (subst (λ l. events1 ≡ more_told events (came_as l)) (sym first) c.in_ok-count.ensures.came) c.in_ok-do_all.ensures.done
    (subst (λ l. IsSentInPart l events1 events2) same c.in_err-send_all.ensures.part)))

pub returns-clause-works : goal.returns-clause-works
returns-clause-works g c =
    let count = c.in_ok-count.count in
    let moment = g.C.Clock.moment c.args.clock.now in
    let events = g.L.Link.events c.args.link.now in
    let events1 = g.L.Link.events c.receive_some.new.link in
    let events2 = g.L.Link.events c.send_all.new.link in
    let came = c.first.result.now in
    let first : came ≡ take count c.receive_some.new.datagrams.items = subst (λ l. came ≡ take count l) c.deref.ensures.value c.first.ensures in
    let many : length came ≡ count = ap length first ∙ length-take-le count c.receive_some.new.datagrams.items c.in_ok-count.ensures.within in
    let due' = due_of (take (length came) c.do_all.new.answers.items) in
    let answered : c.first-2.result.now ≡ take count c.do_all.new.answers.items = subst (λ l. c.first-2.result.now ≡ take count l) c.deref-2.ensures.value c.first-2.ensures in
    let same : due_of c.first-2.result.now ≡ due' = ap due_of (subst (λ k. c.first-2.result.now ≡ take k c.do_all.new.answers.items) (sym many) answered) in
    let state = state_of c.args.seat.now c.args.workspace.now.core events in
    let state' = state_of c.do_all.new.seat c.do_all.new.core events2 in
    round_done count moment state state' events1 came due' many c.in_ok-count.ensures.some
    (subst (λ l. events1 ≡ more_told events (came_as l)) (sym first) c.in_ok-count.ensures.came) c.in_ok-do_all.ensures.done
    (subst (λ l. events2 ≡ more_told events1 (map Sent l)) same c.in_ok-send_all.ensures.sent)
