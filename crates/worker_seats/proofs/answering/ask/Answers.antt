use Rattle.std.proofs.Common.{◌∙◌, Some, None, sym, ap}
use Rattle.dnswire.specs.declared.query_read.QueryRead.TheVariants as reads
use Rattle.replay_meaning.specs.Frame.{input_of}
use Rattle.worker_seats.specs.Answering.{rule_of}
use Rattle.worker_seats.proofs.TurnLemmas.{on_ok, asked_frame, query_does}
use Rattle.worker_seats.proofs.answering.ask.Goals as goal

pub returns-in-Answered-clause-done : goal.returns-in-Answered-clause-done
returns-in-Answered-clause-done c =
    on_ok _ (asked_frame (rule_of c.args.answering) c.args.seat.now c.answer.new.seat (input_of c.args.frame.now) c.args.question.now c.in-Answered.version (Some _) _ _
    (query_does (input_of c.args.frame.now) (reads.Query c.args.question.now) c.requires.kind c.requires.read) c.in-Answered.ensures.outcome.0
    (c.in-Answered.ensures.outcome.1 ∙ ap Some (sym c.as_slice.ensures.value)) c.in-Answered.ensures.read.places) c.write_call.ensures.written

pub returns-in-Forward-clause-done : goal.returns-in-Forward-clause-done
returns-in-Forward-clause-done c =
    on_ok _ (asked_frame (rule_of c.args.answering) c.args.seat.now c.answer.new.seat (input_of c.args.frame.now) c.args.question.now c.in-Forward.version None _ _
    (query_does (input_of c.args.frame.now) (reads.Query c.args.question.now) c.requires.kind c.requires.read) c.in-Forward.ensures.outcome.0
    c.in-Forward.ensures.outcome.1 c.in-Forward.ensures.read.places) c.write_call-in-Forward.ensures.written
