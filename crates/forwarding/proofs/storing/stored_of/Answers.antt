use Rattle.forwarding.proofs.PassedLemmas.{stored_whole}
use Rattle.forwarding.proofs.storing.stored_of.Goals as goal

pub returns-then-not-has_left_out : goal.returns-then-not-has_left_out
returns-then-not-has_left_out c =
    stored_whole c.args.passed.now c.args.batch c.some_batch.result (c.has_left_out.ensures c.if-not-has_left_out.true) c.some_batch.ensures
