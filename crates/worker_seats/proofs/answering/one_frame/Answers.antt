use Rattle.std.proofs.Common.{inl}
use Rattle.replay_meaning.specs.Frame.{input_of}
use Rattle.worker_seats.specs.Answering.{rule_of}
use Rattle.worker_seats.specs.OneFrame.{DoesOneFrame}
use Rattle.worker_seats.proofs.TurnLemmas.{on_any}
use Rattle.worker_seats.proofs.answering.one_frame.Goals as goal

pub returns-in-Query-clause-on : goal.returns-in-Query-clause-on
returns-in-Query-clause-on g c = c.query_frame.ensures.read.on

pub returns-in-Query-clause-placed : goal.returns-in-Query-clause-placed
returns-in-Query-clause-placed g c = inl c.query_frame.ensures.read.places

pub returns-in-Upstream-clause-done : goal.returns-in-Upstream-clause-done
returns-in-Upstream-clause-done g c =
    on_any (λ rule. DoesOneFrame rule c.args.seat.now c.upstream_frame.new.seat (input_of c.args.frame.now) c.args.out.now.items c.upstream_frame.new.out.items) c.upstream_frame.result (rule_of c.args.answering)
    c.upstream_frame.ensures.done
