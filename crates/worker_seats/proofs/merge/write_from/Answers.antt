use Rattle.std.proofs.Common.{◌∙◌, ◌+◌, ◌*◌, refl}
use Rattle.worker_seats.specs.declared.cut.TheConstants.{RANGE}
use Rattle.worker_seats.proofs.GatherLemmas.{err_to, ok_to}
use Rattle.worker_seats.proofs.MergeLemmas.{all_done, frame_begins, frame_within, is_next, none_next, piece_next, stands_more, told_all, told_cut, told_end_cut, told_first, told_more}
use Rattle.worker_seats.proofs.merge.write_from.Goals as goal

pub loop-owner-init : goal.loop-owner-init
loop-owner-init g c = record {
  done = RANGE * c.args.range;
  stands = record { spelled = c.rest_at-rest.ensures; lie = c.places_at-places.ensures.lie; room = c.places_at-places.ensures.room };
  told = λ octets merged before is. told_first _ _ before _ c.new-gathered.ensures.items is;
  faults = refl;
}

pub of_worker-octets-requires : goal.of_worker-octets-requires
of_worker-octets-requires g c =
    (is_next c.args.outputs.now c.args.frames.now _ _ _ c.from-worker.result c.in-Some.owner c.in-Some.after.now c.loop-owner.invariant.stands c.requires.workers c.requires.merge c.from-worker.ensures (c.in-Some.ensures.shorter, c.in-Some.ensures.every)).below

pub put_frame-requires-clause-within : goal.put_frame-requires-clause-within
put_frame-requires-clause-within g c =
    frame_within c.args.outputs.now c.args.frames.now _ _ _ _ _
    (is_next c.args.outputs.now c.args.frames.now _ _ _ c.from-worker.result c.in-Some.owner c.in-Some.after.now c.loop-owner.invariant.stands c.requires.workers c.requires.merge c.from-worker.ensures (c.in-Some.ensures.shorter, c.in-Some.ensures.every))
    c.of_worker-octets.result.now c.of_worker-octets.ensures

pub put_frame-requires-clause-frame : goal.put_frame-requires-clause-frame
put_frame-requires-clause-frame g c =
    frame_begins c.args.outputs.now c.args.frames.now _ _ _ _ _
    (is_next c.args.outputs.now c.args.frames.now _ _ _ c.from-worker.result c.in-Some.owner c.in-Some.after.now c.loop-owner.invariant.stands c.requires.workers c.requires.merge c.from-worker.ensures (c.in-Some.ensures.shorter, c.in-Some.ensures.every))
    c.of_worker-octets.result.now c.of_worker-octets.ensures

pub returns-in-Err-clause-part : goal.returns-in-Err-clause-part
returns-in-Err-clause-part g c = λ octets merged before is.
    let next = is_next c.args.outputs.now c.args.frames.now _ _ _ c.from-worker.result c.in-Some.owner c.in-Some.after.now c.loop-owner.invariant.stands c.requires.workers c.requires.merge c.from-worker.ensures (c.in-Some.ensures.shorter, c.in-Some.ensures.every) in
    let piece = piece_next _ _ _ _ _ _ _ next c.of_worker-octets.result.now c.of_worker-octets.ensures octets merged in
    told_cut octets _ _ piece.others _ before _ _ (c.loop-owner.invariant.told octets merged before is) piece.whole (c.in-Err.ensures.part piece.output piece.later piece.valid piece.front)

pub loop-owner-preserved : goal.loop-owner-preserved
loop-owner-preserved g c =
    let next = is_next c.args.outputs.now c.args.frames.now _ _ _ c.from-worker.result c.in-Some.owner c.in-Some.after.now c.loop-owner.invariant.stands c.requires.workers c.requires.merge c.from-worker.ensures (c.in-Some.ensures.shorter, c.in-Some.ensures.every) in
    record {
      done = c.loop-owner.invariant.done + 1;
      stands = stands_more _ _ _ _ _ _ _ next c.of_worker-octets.result.now c.of_worker-octets.ensures c.in-Ok.next (λ output back valid front. (c.in-Ok.ensures.put output back valid front).0);
      told = λ octets merged before is.
          let piece = piece_next _ _ _ _ _ _ _ next c.of_worker-octets.result.now c.of_worker-octets.ensures octets merged in
          told_more _ _ _ _ _ before _ _ (c.loop-owner.invariant.told octets merged before is) piece.more (c.in-Ok.ensures.put piece.output piece.later piece.valid piece.front).1;
      faults = c.in-Ok.ensures.faults ∙ c.loop-owner.invariant.faults;
    }

pub returns-clause-written : goal.returns-clause-written
returns-clause-written g c = ok_to c.flush.result (λ written octets merged before is.
    told_all _ octets _ before _ _ (all_done _ _ octets merged _ (none_next _ _ _ _ _ c.loop-owner.invariant.stands c.in_default.ensures.every)) (c.loop-owner.invariant.told octets merged before is) written) c.flush.ensures.written

pub returns-clause-part : goal.returns-clause-part
returns-clause-part g c = err_to c.flush.result (λ part octets merged before is.
    told_end_cut _ octets _ before _ _ (all_done _ _ octets merged _ (none_next _ _ _ _ _ c.loop-owner.invariant.stands c.in_default.ensures.every)) (c.loop-owner.invariant.told octets merged before is) part) c.flush.ensures.part
