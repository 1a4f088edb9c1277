use Rattle.std.proofs.Common.{Err, ◌∙◌, ap, refl, subst, sym}
use Rattle.std.proofs.lemmas.Result.{err_from_is_err_and}
use Rattle.cache_versions.specs.Seats.{seen_by}
use Rattle.stream_front.proofs.FrontLemmas.{rest_is}
use Rattle.stream_server.specs.Piece.{HasAnswered}
use Rattle.stream_server.proofs.StreamLemmas.{waited, left_within, looked, looked_in_part}
use Rattle.stream_server.proofs.pieces.answer_read.Goals as goal

pub returns-then-waits-clause-answered : goal.returns-then-waits-clause-answered
returns-then-waits-clause-answered g c =
    let written = g.K.Sink.written in
    waited (g.C.Clock.moment c.args.clock.now) (seen_by c.args.seat.now) (seen_by c.args.seat.now) c.args.front.now c.args.front.now (written c.args.sink.now) (written c.args.sink.now)
    refl (rest_is c.args.front.now c.requires.open) (c.waits.ensures c.if-waits.true) refl refl

pub returns-in_err-left-clause-answered : goal.returns-in_err-left-clause-answered
returns-in_err-left-clause-answered g c =
    let p = err_from_is_err_and c.from_residual.result c.from_residual.ensures.1 in
    let written = g.K.Sink.written in
    subst (HasAnswered (g.C.Clock.moment c.args.clock.now) (seen_by c.args.seat.now) (seen_by c.answer_all.new.seat) c.args.front.now c.args.front.now (written c.args.sink.now) (written c.answer_all.new.sink)) (sym (p.1 ∙ ap Err p.2))
    (looked_in_part (g.C.Clock.moment c.args.clock.now) (seen_by c.args.seat.now) (seen_by c.answer_all.new.seat) c.args.front.now c.args.front.now (written c.args.sink.now) (written c.answer_all.new.sink)
    c.rest.result.now c.rest.ensures c.now.result c.now.ensures _ c.in_err-left.ensures.answered)

pub keep-requires-clause-within : goal.keep-requires-clause-within
keep-requires-clause-within g c =
    let written = g.K.Sink.written in
    left_within (g.C.Clock.moment c.args.clock.now) (seen_by c.args.seat.now) (seen_by c.answer_all.new.seat) c.args.front.now c.args.front.now (written c.args.sink.now) (written c.answer_all.new.sink)
    c.rest.result.now c.rest.ensures c.now.result c.now.ensures _ c.in_ok-left.ensures.answered

pub returns-clause-answered : goal.returns-clause-answered
returns-clause-answered g c =
    let written = g.K.Sink.written in
    looked (g.C.Clock.moment c.args.clock.now) (seen_by c.args.seat.now) (seen_by c.answer_all.new.seat) c.args.front.now c.keep.new.self (written c.args.sink.now) (written c.answer_all.new.sink)
    c.rest.result.now c.rest.ensures c.now.result c.now.ensures _ c.in_ok-left.ensures.answered c.keep.ensures
