use Rattle.std.proofs.Common.{subst, sym, ap, length, arith, length-append, ◌∷◌, []}
use Rattle.std.proofs.lemmas.Result.{err_from_is_err_and}
use Rattle.dnswire.specs.InTurn.{StandInTurn}
use Rattle.dnswire.specs.Message.{IsRr}
use Rattle.dnswire.proofs.InTurnLemmas.{in_turn-push}
use Rattle.dnswire.proofs.MessageLemmas.{rr_refused}
use Rattle.dnswire.proofs.section.read_section.Goals as goal

pub loop-preserved : goal.loop-preserved
loop-preserved c =
    let pushed = c.in-Ok.ensures.ok in
    let IsAt = IsRr c.args.message.now in
    record {
      reads = subst (λ rrs. StandInTurn IsAt c.args.at rrs c.in_ok-rr.after) (sym pushed) (in_turn-push IsAt _ _ _ _ _ c.loop.invariant.reads c.in_ok-rr.ensures.read);
      count = omega (arith, ap length pushed, length-append c.loop.rrs (c.in_ok-rr.rr ∷ []), c.loop.invariant.count);
      table = c.read.ensures.table;
    }

pub returns-in_err-rr-clause-refused : goal.returns-in_err-rr-clause-refused
returns-in_err-rr-clause-refused c =
    let p = err_from_is_err_and c.from_residual.result c.from_residual.ensures.1 in
    rw (p.1, p.2) (rr_refused _ _ _ _ _ _ _ c.loop.invariant.reads c.loop.invariant.count c.loop-test.true c.in_err-rr.ensures.refused)
