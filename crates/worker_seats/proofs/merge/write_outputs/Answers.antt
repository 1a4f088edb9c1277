use Rattle.std.proofs.Common.{◌∙◌, sym}
use Rattle.worker_seats.proofs.GatherLemmas.{err_to, ok_to}
use Rattle.worker_seats.proofs.MergeLemmas.{one_can}
use Rattle.worker_seats.proofs.RoundLemmas.{rest_in_part, rest_written}
use Rattle.worker_seats.proofs.merge.write_outputs.Goals as goal

pub returns-then-workers-eq1-clause-written : goal.returns-then-workers-eq1-clause-written
returns-then-workers-eq1-clause-written g c =
    ok_to c.write_whole.result (λ written. record {
      octets = c.of_worker.result.now;
      merged = one_can c.args.outputs.now c.args.frames.now (sym c.workers.ensures ∙ c.if-workers-eq1.true) c.requires.workers c.of_worker.result.now c.of_worker.ensures c.requires.merge;
      written = written;
    }) c.write_whole.ensures.written

pub returns-then-workers-eq1-clause-part : goal.returns-then-workers-eq1-clause-part
returns-then-workers-eq1-clause-part g c =
    err_to c.write_whole.result (λ part. record {
      octets = c.of_worker.result.now;
      merged = one_can c.args.outputs.now c.args.frames.now (sym c.workers.ensures ∙ c.if-workers-eq1.true) c.requires.workers c.of_worker.result.now c.of_worker.ensures c.requires.merge;
      part = record { size = part.0; strict = part.1; written = part.2 };
    }) c.write_whole.ensures.part

pub returns-then-ranges-eq1-clause-written : goal.returns-then-ranges-eq1-clause-written
returns-then-ranges-eq1-clause-written g c = ok_to c.write_from.result (rest_written _ _ _ _ c.requires.merge) c.write_from.ensures.written

pub returns-then-ranges-eq1-clause-part : goal.returns-then-ranges-eq1-clause-part
returns-then-ranges-eq1-clause-part g c = err_to c.write_from.result (rest_in_part _ _ _ _ c.requires.merge) c.write_from.ensures.part

pub returns-clause-written : goal.returns-clause-written
returns-clause-written g c = ok_to c.write_rounds.result (rest_written _ _ _ _ c.requires.merge) c.write_rounds.ensures.written

pub returns-clause-part : goal.returns-clause-part
returns-clause-part g c = err_to c.write_rounds.result (rest_in_part _ _ _ _ c.requires.merge) c.write_rounds.ensures.part
