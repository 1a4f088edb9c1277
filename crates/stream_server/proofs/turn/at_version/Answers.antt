use Rattle.std.proofs.Common.{◌∙◌, ℕ, List, Option, sym, ap}
use Rattle.cache_versions.specs.Lends.{seat_in}
use Rattle.cache_versions.specs.Seats.{opening_by, seen_by}
use Rattle.resolver.proofs.OutcomeLemmas.{is_kept, sound_as_held}
use Rattle.stream_front.specs.Split.{framed}
use Rattle.stream_server.specs.Turn.{reply_or_failure}
use Rattle.stream_server.proofs.ReplyLemmas.{long_reply_as_held}
use Rattle.stream_server.proofs.turn.at_version.Goals as goal

pub returns-then-long_reply-clause-answered : goal.returns-then-long_reply-clause-answered
returns-then-long_reply-clause-answered c =
    let seat = seat_in c.args.version.now in
    let kept = is_kept (seen_by seat) c.state.result.now (opening_by seat) c.state.ensures c.requires in
    let found = sym c.if-long_reply.ensures.reply ∙ long_reply_as_held (seen_by seat) c.state.result.now c.args.question.now c.args.now kept in
    ap (λ (reply : Option (List ℕ)). framed (reply_or_failure c.args.question.now reply)) found

pub returns-then-long_reply-clause-sound : goal.returns-then-long_reply-clause-sound
returns-then-long_reply-clause-sound c =
    let seat = seat_in c.args.version.now in
    let kept = is_kept (seen_by seat) c.state.result.now (opening_by seat) c.state.ensures c.requires in
    sound_as_held (seen_by seat) c.state.result.now c.args.question.now c.args.now kept c.if-long_reply.ensures.sound

pub returns-else-long_reply-clause-answered : goal.returns-else-long_reply-clause-answered
returns-else-long_reply-clause-answered c =
    let seat = seat_in c.args.version.now in
    let kept = is_kept (seen_by seat) c.state.result.now (opening_by seat) c.state.ensures c.requires in
    let found = sym c.if-long_reply.ensures.reply ∙ long_reply_as_held (seen_by seat) c.state.result.now c.args.question.now c.args.now kept in
    ap (λ (octets : List ℕ). framed octets) c.write_plain.ensures.value ∙ ap (λ (reply : Option (List ℕ)). framed (reply_or_failure c.args.question.now reply)) found

pub returns-else-long_reply-clause-sound : goal.returns-else-long_reply-clause-sound
returns-else-long_reply-clause-sound c =
    let seat = seat_in c.args.version.now in
    let kept = is_kept (seen_by seat) c.state.result.now (opening_by seat) c.state.ensures c.requires in
    sound_as_held (seen_by seat) c.state.result.now c.args.question.now c.args.now kept c.if-long_reply.ensures.sound
