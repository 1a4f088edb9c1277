use Rattle.std.proofs.Common.{◌∙◌, ◌<◌, length, arith, length-set}
use Rattle.std.proofs.lemmas.List.{length-map}
use Rattle.worker_seats.proofs.StartLemmas.{cut_place, many_cuts, places_more}
use Rattle.worker_seats.proofs.starts.places_at.Goals as goal

pub returns-then-worker-workers-clause-lie : goal.returns-then-worker-workers-clause-lie
returns-then-worker-workers-clause-lie c = λ octets merged worker lt lt'.
    c.loop-worker.invariant.places octets merged worker (omega (arith, lt', length-map c.args.outputs.now (λ part. part.octets), c.workers.ensures, c.if-worker-workers.true))

pub cut_before-requires : goal.cut_before-requires
cut_before-requires c =
    let lt : c.loop-worker.worker < length c.args.outputs.now = omega (arith, c.loop-worker.invariant.within, c.workers.ensures, c.if-worker-workers.false) in
    omega (arith, c.requires.range, many_cuts c.args.outputs.now c.args.frames.now c.requires.cuts c.loop-worker.worker lt c.cuts_of.result.now c.cuts_of.ensures)

pub loop-worker-preserved : goal.loop-worker-preserved
loop-worker-preserved c =
    let at = c.loop-worker in
    let lt : at.worker < length c.args.outputs.now = omega (arith, at.invariant.within, c.workers.ensures, c.if-worker-workers.false) in
    record {
      room = length-set at.places at.worker c.cut_before.result.place ∙ at.invariant.room;
      few = omega (arith, c.loop-worker-test.true);
      within = omega (arith, lt);
      places = places_more c.args.outputs.now c.args.frames.now _ at.worker at.places at.invariant.places c.cut_before.result.place (omega (arith, at.invariant.room, c.loop-worker-test.true))
          (cut_place c.args.outputs.now c.args.frames.now c.requires.cuts at.worker lt c.cuts_of.result.now c.cuts_of.ensures c.args.range c.cut_before.result c.cut_before.ensures);
    }

pub returns-clause-lie : goal.returns-clause-lie
returns-clause-lie c = λ octets merged worker lt lt'. c.loop-worker.invariant.places octets merged worker (omega (arith, lt, c.loop-worker.invariant.room, c.loop-worker-test.false))
