use Rattle.std.proofs.Common.{◌≡◌, ◌∙◌, ◌+◌, ◌*◌, ◌++◌, arith, sym, ap, take}
use Rattle.std.proofs.lemmas.List.{append-nil}
use Rattle.replay_meaning.specs.OutFrame.{outputs_spelling}
use Rattle.worker_seats.specs.declared.cut.TheConstants.{RANGE}
use Rattle.worker_seats.proofs.MergeLemmas.{all_beyond, frame_begins, frame_within, is_next, none_next, piece_next, piece_pushed, stands_more}
use Rattle.worker_seats.proofs.ranges.merge_range.Goals as goal

pub loop-passed-init : goal.loop-passed-init
loop-passed-init c = record {
  few = omega arith;
  done = RANGE * c.args.job.range;
  so_far = omega arith;
  stands = record { spelled = c.rest_at-rest.ensures; lie = c.places_at-places.ensures.lie; room = c.places_at-places.ensures.room };
  merged = λ octets merged. sym (ap (λ l. outputs_spelling (take (RANGE * c.args.job.range) merged.outputs) ++ l) c.emptied-buffer.ensures ∙ append-nil (outputs_spelling (take (RANGE * c.args.job.range) merged.outputs)));
}

pub returns-in_default : goal.returns-in_default
returns-in_default c = λ octets merged.
    all_beyond _ _ octets merged c.loop-passed.invariant.done (RANGE * (c.args.job.range + 1)) (none_next _ _ _ _ _ c.loop-passed.invariant.stands c.in_default.ensures.every)
    (omega (arith, c.loop-passed.invariant.so_far, c.loop-passed.invariant.few))
    ∙ c.loop-passed.invariant.merged octets merged

pub of_worker-octets-requires : goal.of_worker-octets-requires
of_worker-octets-requires c =
    (is_next c.args.outputs.now c.args.frames.now _ _ _ c.from-worker.result c.in-Some.owner c.in-Some.after.now c.loop-passed.invariant.stands c.requires.workers c.requires.merge c.from-worker.ensures (c.in-Some.ensures.shorter, c.in-Some.ensures.every)).below

pub push_frame-requires-clause-within : goal.push_frame-requires-clause-within
push_frame-requires-clause-within c =
    frame_within c.args.outputs.now c.args.frames.now _ _ _ _ _
    (is_next c.args.outputs.now c.args.frames.now _ _ _ c.from-worker.result c.in-Some.owner c.in-Some.after.now c.loop-passed.invariant.stands c.requires.workers c.requires.merge c.from-worker.ensures (c.in-Some.ensures.shorter, c.in-Some.ensures.every))
    c.of_worker-octets.result.now c.of_worker-octets.ensures

pub push_frame-requires-clause-frame : goal.push_frame-requires-clause-frame
push_frame-requires-clause-frame c =
    frame_begins c.args.outputs.now c.args.frames.now _ _ _ _ _
    (is_next c.args.outputs.now c.args.frames.now _ _ _ c.from-worker.result c.in-Some.owner c.in-Some.after.now c.loop-passed.invariant.stands c.requires.workers c.requires.merge c.from-worker.ensures (c.in-Some.ensures.shorter, c.in-Some.ensures.every))
    c.of_worker-octets.result.now c.of_worker-octets.ensures

pub loop-passed-preserved : goal.loop-passed-preserved
loop-passed-preserved c =
    let next = is_next c.args.outputs.now c.args.frames.now _ _ _ c.from-worker.result c.in-Some.owner c.in-Some.after.now c.loop-passed.invariant.stands c.requires.workers c.requires.merge c.from-worker.ensures (c.in-Some.ensures.shorter, c.in-Some.ensures.every) in
    record {
      few = omega (arith, c.loop-passed-test.true);
      done = c.loop-passed.invariant.done + 1;
      so_far = omega (arith, c.loop-passed.invariant.so_far);
      stands = stands_more _ _ _ _ _ _ _ next c.of_worker-octets.result.now c.of_worker-octets.ensures c.in_ok-places.field-0 (λ output back valid front. (c.in_ok-places.ensures output back valid front).0);
      merged = λ octets merged.
          let piece = piece_next _ _ _ _ _ _ _ next c.of_worker-octets.result.now c.of_worker-octets.ensures octets merged in
          piece_pushed _ _ _ _ _ _ piece.more (c.loop-passed.invariant.merged octets merged) (c.in_ok-places.ensures piece.output piece.later piece.valid piece.front).1;
    }

pub returns : goal.returns
returns c = λ octets merged.
    let done : RANGE * (c.args.job.range + 1) ≡ c.loop-passed.invariant.done = omega (arith, c.loop-passed.invariant.so_far, c.loop-passed.invariant.few, c.loop-passed-test.false) in
    ap (λ n. outputs_spelling (take n merged.outputs)) done ∙ c.loop-passed.invariant.merged octets merged
