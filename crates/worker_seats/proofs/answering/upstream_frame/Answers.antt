use Rattle.std.proofs.Common.{inl, refl}
use Rattle.std.specs.Prelude.{Err}
use Rattle.replay_meaning.specs.Frame.{input_of}
use Rattle.resolver.proofs.GoneOnLemmas.{gone_on_self}
use Rattle.worker_seats.proofs.TurnLemmas.{on_both, told_by_any, answer_does, fault_is}
use Rattle.worker_seats.proofs.answering.upstream_frame.Goals as goal

pub returns-in-Err-clause-on : goal.returns-in-Err-clause-on
returns-in-Err-clause-on g c = gone_on_self c.args.cache.now c.args.seat.now c.requires.object

pub returns-in-Err-clause-done : goal.returns-in-Err-clause-done
returns-in-Err-clause-done g c =
    let input = input_of c.args.frame.now in
    on_both _ (λ writes other. told_by_any c.args.seat.now input _ _ _ _ (answer_does input (Err c.in-Err.fault) c.requires.kind (fault_is input.message input.now c.in-Err.fault c.in-Err.ensures.refused other)) writes)
    c.write_refused_output.ensures.written c.write_refused_output.ensures.fault

pub returns-in-Err-clause-placed : goal.returns-in-Err-clause-placed
returns-in-Err-clause-placed g c = inl refl
