use Rattle.std.proofs.Common.{Some, ◌∙◌, sym, ap, subst}
use Rattle.dnswire.specs.Query.{IsReadAs}
use Rattle.dnswire.specs.declared.query_read.QueryRead.{QueryRead}
use Rattle.dnswire.specs.declared.query_read.QueryRead.TheVariants as reads
use Rattle.replay_meaning.specs.Frame.{input_of}
use Rattle.resolver.proofs.GoneOnLemmas.{only_read_self}
use Rattle.worker_seats.specs.Answering.{rule_of}
use Rattle.worker_seats.proofs.TurnLemmas.{on_ok, told_frame, query_does, fault_does}
use Rattle.worker_seats.proofs.answering.query_frame.Goals as goal

pub query_step_of-requires : goal.query_step_of-requires
query_step_of-requires c = (c.args.frame.now.message.now, c.read_query.ensures.read)

pub returns-in-Dropped-clause-read : goal.returns-in-Dropped-clause-read
returns-in-Dropped-clause-read c = only_read_self c.args.cache.now c.args.seat.now c.requires.object

pub returns-in-Dropped-clause-done : goal.returns-in-Dropped-clause-done
returns-in-Dropped-clause-done c =
    on_ok _ (told_frame (rule_of c.args.answering) c.args.seat.now (input_of c.args.frame.now) _ _ _ _ (query_does (input_of c.args.frame.now) reads.Dropped c.requires.kind (subst (λ (read : QueryRead). IsReadAs c.args.frame.now.message.now read) c.in-Dropped.ensures c.read_query.ensures.read))) c.write_output.ensures.written

pub returns-in-Error-clause-read : goal.returns-in-Error-clause-read
returns-in-Error-clause-read c = only_read_self c.args.cache.now c.args.seat.now c.requires.object

pub returns-in-Error-clause-done : goal.returns-in-Error-clause-done
returns-in-Error-clause-done c =
    on_ok _ (told_frame (rule_of c.args.answering) c.args.seat.now (input_of c.args.frame.now) _ _ _ _ (fault_does (input_of c.args.frame.now) c.read_query.result _ c.requires.kind c.read_query.ensures.read (c.in-Error.ensures ∙ ap Some (sym c.as_slice.ensures.value)))) c.write_output-in-Error.ensures.written

pub ask-requires-clause-read : goal.ask-requires-clause-read
ask-requires-clause-read c = subst (λ (read : QueryRead). IsReadAs c.args.frame.now.message.now read) c.in-Query.ensures c.read_query.ensures.read
