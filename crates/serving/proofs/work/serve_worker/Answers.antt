use Rattle.std.proofs.Common.{◌≡◌, ℕ, ◌-◌, ◌∙◌, ap, refl, subst, sym, arith}
use Rattle.std.specs.Prelude.{Err}
use Rattle.std.proofs.lemmas.Result.{err_from_is_err_and}
use Rattle.serving.specs.AtWork.{IsAtWork, state_of}
use Rattle.serving.specs.Pending.{empty_table}
use Rattle.serving.specs.Worker.{HasServed}
use Rattle.serving.proofs.WorkerLemmas.{never_began, none_at_work}
use Rattle.serving.proofs.work.serve_worker.Goals as goal

pub returns-in_err-workspace-clause-served : goal.returns-in_err-workspace-clause-served
returns-in_err-workspace-clause-served g c =
    let p = err_from_is_err_and c.from_residual.result c.from_residual.ensures.1 in
    let moment = g.C.Clock.moment c.args.clock.now in
    let events = g.L.Link.events c.args.link.now in
    subst (HasServed c.args.datagrams moment c.args.seat.now c.args.seat.now events events) (sym (p.1 ∙ ap Err p.2)) (never_began c.args.datagrams moment c.args.seat.now events)

pub loop-left-init : goal.loop-left-init
loop-left-init g c =
    let moment = g.C.Clock.moment c.args.clock.now in
    let events = g.L.Link.events c.args.link.now in
    record {
      object = c.requires;
      number = refl;
      datagrams = c.in_ok-workspace.ensures.datagrams;
      answers = c.in_ok-workspace.ensures.answers;
      port = refl;
      upstream = refl;
      faults = refl;
      few = omega arith;
      at = subst (λ k. IsAtWork k moment (state_of c.args.seat.now empty_table events) (state_of c.args.seat.now c.in_ok-workspace.workspace.core events)) (none_left c.args.datagrams)
          (none_at_work moment c.args.seat.now c.in_ok-workspace.workspace.core events c.in_ok-workspace.ensures.core);
    }
  where
    none_left : (n : ℕ) → 0 ≡ n - n
    none_left n = omega arith

pub returns-in_err-left-clause-served : goal.returns-in_err-left-clause-served
returns-in_err-left-clause-served g c =
    let p = err_from_is_err_and c.from_residual-in_err-left.result c.from_residual-in_err-left.ensures.1 in
    let events = g.L.Link.events c.args.link.now in
    subst (HasServed c.args.datagrams (g.C.Clock.moment c.args.clock.now) c.args.seat.now c.serve_next.new.seat events (g.L.Link.events c.serve_next.new.link)) (sym (p.1 ∙ ap Err p.2))
    (c.in_err-left.ensures.halts (c.args.datagrams - c.loop-left.left) c.args.datagrams (state_of c.args.seat.now empty_table events) (omega (arith, c.loop-left.invariant.few)) c.loop-left.invariant.at)
