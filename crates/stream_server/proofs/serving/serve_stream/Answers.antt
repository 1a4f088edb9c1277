use Rattle.std.proofs.Common.{Err, ◌∙◌, ap, refl, subst, sym, arith}
use Rattle.std.proofs.lemmas.Result.{err_from_is_err_and}
use Rattle.cache_versions.specs.Seats.{seen_by}
use Rattle.resolver.proofs.GoneOnLemmas.{only_read_self, only_read_then}
use Rattle.stream_server.specs.Stream.{HasFaults, HasStreamed}
use Rattle.stream_server.proofs.StreamLemmas.{begun, read_failed, read_faults, read_out, piece_failed, piece_done, too_long}
use Rattle.stream_server.proofs.serving.serve_stream.Goals as goal

pub loop-read-init : goal.loop-read-init
loop-read-init g c = record {
  few = omega arith;
  has_read = only_read_self c.args.cache.now c.args.seat.now c.requires;
  under_way =
      rw c.fresh-front.ensures
      (begun (g.C.Clock.moment c.args.clock.now) (seen_by c.args.seat.now) (g.S.Source.taken c.args.source.now) (g.S.Source.left c.args.source.now) (g.K.Sink.written c.args.sink.now));
  source_faults = refl;
  sink_faults = refl;
}

pub returns-in_err-count-clause-faults : goal.returns-in_err-count-clause-faults
returns-in_err-count-clause-faults g c =
    let p = err_from_is_err_and c.from_residual.result c.from_residual.ensures.1 in
    let faults = g.S.Source.faults in
    let sink = g.K.Sink.faults in
    let at = c.loop-read.invariant in
    subst (HasFaults (faults c.args.source.now) (faults c.read.new.source) (sink c.args.sink.now) (sink c.loop-read.sink)) (sym (p.1 ∙ ap Err p.2))
    (read_faults (faults c.args.source.now) (faults c.loop-read.source) (faults c.read.new.source) (sink c.args.sink.now) (sink c.loop-read.sink) _ at.source_faults at.sink_faults c.in_err-count.ensures.cause)

pub returns-in_err-count-clause-streamed : goal.returns-in_err-count-clause-streamed
returns-in_err-count-clause-streamed g c =
    let p = err_from_is_err_and c.from_residual.result c.from_residual.ensures.1 in
    let taken = g.S.Source.taken in
    let left = g.S.Source.left in
    let written = g.K.Sink.written in
    subst (HasStreamed (g.C.Clock.moment c.args.clock.now) (seen_by c.args.seat.now) (seen_by c.loop-read.seat) (taken c.args.source.now) (taken c.read.new.source) (left c.args.source.now) (left c.read.new.source) (written c.args.sink.now) (written c.loop-read.sink)) (sym (p.1 ∙ ap Err p.2))
    (read_failed c.loop-read.read (g.C.Clock.moment c.args.clock.now) (seen_by c.args.seat.now) (seen_by c.loop-read.seat) (taken c.args.source.now) (taken c.loop-read.source) (left c.args.source.now) (left c.loop-read.source) (written c.args.sink.now) (written c.loop-read.sink)
    c.loop-read.front c.loop-read.invariant.under_way (taken c.read.new.source) (left c.read.new.source) (omega (arith, c.loop-read-test.true)) c.in_err-count.ensures.failed_taken c.in_err-count.ensures.failed_left _)

pub returns-then-count-eq0-clause-streamed : goal.returns-then-count-eq0-clause-streamed
returns-then-count-eq0-clause-streamed g c =
    let taken = g.S.Source.taken in
    let left = g.S.Source.left in
    let written = g.K.Sink.written in
    read_out c.loop-read.read (g.C.Clock.moment c.args.clock.now) (seen_by c.args.seat.now) (seen_by c.loop-read.seat) (taken c.args.source.now) (taken c.loop-read.source) (taken c.read.new.source) (left c.args.source.now) (left c.loop-read.source) (left c.read.new.source) (written c.args.sink.now) (written c.loop-read.sink)
    c.loop-read.front c.read.new.self _ c.rest.result.now c.loop-read.invariant.under_way c.in_ok-count.ensures.taken (omega (arith, c.loop-read-test.true)) c.if-count-eq0.true c.rest.ensures

pub returns-in_err-answer_read-clause-streamed : goal.returns-in_err-answer_read-clause-streamed
returns-in_err-answer_read-clause-streamed g c =
    let p = err_from_is_err_and c.from_residual-in_err-answer_read.result c.from_residual-in_err-answer_read.ensures.1 in
    let taken = g.S.Source.taken in
    let left = g.S.Source.left in
    let written = g.K.Sink.written in
    subst (HasStreamed (g.C.Clock.moment c.args.clock.now) (seen_by c.args.seat.now) (seen_by c.answer_read.new.seat) (taken c.args.source.now) (taken c.read.new.source) (left c.args.source.now) (left c.read.new.source) (written c.args.sink.now) (written c.answer_read.new.sink)) (sym (p.1 ∙ ap Err p.2))
    (piece_failed c.loop-read.read (g.C.Clock.moment c.args.clock.now) (seen_by c.args.seat.now) (seen_by c.loop-read.seat) (seen_by c.answer_read.new.seat) (taken c.args.source.now) (taken c.loop-read.source) (taken c.read.new.source) (left c.args.source.now) (left c.loop-read.source) (left c.read.new.source) (written c.args.sink.now) (written c.loop-read.sink) (written c.answer_read.new.sink)
    c.loop-read.front c.read.new.self c.answer_read.new.front _ c.loop-read.invariant.under_way c.in_ok-count.ensures.taken c.loop-read.invariant.has_read.on.begins c.in_err-answer_read.ensures.read.on.begins (omega (arith, c.in_ok-count.ensures.few, c.loop-read-test.true)) _ c.in_err-answer_read.ensures.answered)

pub loop-read-preserved : goal.loop-read-preserved
loop-read-preserved g c =
    let taken = g.S.Source.taken in
    let left = g.S.Source.left in
    let written = g.K.Sink.written in
    let at = c.loop-read.invariant in
    let more = c.in_ok-count.ensures in
    let all = c.in_ok-answer_read.ensures in
    record {
      few = omega (arith, more.few, c.loop-read-test.true);
      has_read = only_read_then c.args.cache.now c.args.seat.now c.loop-read.seat c.answer_read.new.seat at.has_read all.read;
      under_way =
          piece_done c.loop-read.read (g.C.Clock.moment c.args.clock.now) (seen_by c.args.seat.now) (seen_by c.loop-read.seat) (seen_by c.answer_read.new.seat) (taken c.args.source.now) (taken c.loop-read.source) (taken c.read.new.source) (left c.args.source.now) (left c.loop-read.source) (left c.read.new.source) (written c.args.sink.now) (written c.loop-read.sink) (written c.answer_read.new.sink)
          c.loop-read.front c.read.new.self c.answer_read.new.front _ at.under_way more.taken at.has_read.on.begins all.read.on.begins all.answered;
      source_faults = more.cause ∙ at.source_faults;
      sink_faults = all.faults ∙ at.sink_faults;
    }

pub returns-clause-streamed : goal.returns-clause-streamed
returns-clause-streamed g c =
    let taken = g.S.Source.taken in
    let left = g.S.Source.left in
    let written = g.K.Sink.written in
    too_long c.loop-read.read (g.C.Clock.moment c.args.clock.now) (seen_by c.args.seat.now) (seen_by c.loop-read.seat) (taken c.args.source.now) (taken c.loop-read.source) (left c.args.source.now) (left c.loop-read.source) (written c.args.sink.now) (written c.loop-read.sink)
    c.loop-read.front c.loop-read.invariant.under_way (omega (arith, c.loop-read-test.false)) c.loop-read.invariant.few
