use Rattle.std.proofs.Common.{inl, refl, arith}
use Rattle.std.specs.Prelude.{Ok}
use Rattle.replay_meaning.specs.Frame.{input_of}
use Rattle.worker_seats.proofs.TurnLemmas.{on_ok, placed_frame, spent_frame, answer_does}
use Rattle.worker_seats.proofs.AnswerLemmas.{inserted_at_most}
use Rattle.worker_seats.proofs.answering.insert.Goals as goal

pub returns-in-Ok-clause-done : goal.returns-in-Ok-clause-done
returns-in-Ok-clause-done g c =
    let input = input_of c.args.frame.now in
    on_ok _ (placed_frame c.args.seat.now c.insert.new.seat input c.args.taken c.in-Ok.placed _ _ _ (answer_does input (Ok c.args.taken) c.requires.kind c.requires.taken) c.in-Ok.ensures.answer c.stored_body-body.ensures) c.write_call.ensures.written

pub returns-in-Ok-clause-placed : goal.returns-in-Ok-clause-placed
returns-in-Ok-clause-placed g c = inserted_at_most c.args.seat.now c.insert.new.seat (input_of c.args.frame.now) c.args.taken c.in-Ok.placed c.requires.kind c.requires.taken c.in-Ok.ensures.answer

pub returns-in-Err-NumbersSpent-clause-done : goal.returns-in-Err-NumbersSpent-clause-done
returns-in-Err-NumbersSpent-clause-done g c =
    let met = rw c.in-Err-NumbersSpent.field-0-is at c.in-Err-NumbersSpent.ensures.answer in
    on_ok _ (spent_frame c.args.seat.now c.insert.new.seat (input_of c.args.frame.now) _ _ _ refl (omega (arith, met.version, met.full))) c.write_spent_output.ensures.written

pub returns-in-Err-NumbersSpent-clause-placed : goal.returns-in-Err-NumbersSpent-clause-placed
returns-in-Err-NumbersSpent-clause-placed g c =
    let met = rw c.in-Err-NumbersSpent.field-0-is at c.in-Err-NumbersSpent.ensures.answer in
    inl met.places
