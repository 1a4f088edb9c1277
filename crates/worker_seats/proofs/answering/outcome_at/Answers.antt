use Rattle.std.proofs.Common.{◌∙◌, sym}
use Rattle.cache_versions.specs.Lends.{seat_in}
use Rattle.cache_versions.specs.Seats.{opening_by, seen_by}
use Rattle.resolver.proofs.OutcomeLemmas.{is_kept}
use Rattle.resolver.proofs.HeldLemmas.{reply_as_held}
use Rattle.worker_seats.proofs.answering.outcome_at.Goals as goal

pub returns-then-reply_by : goal.returns-then-reply_by
returns-then-reply_by c =
    let seat = seat_in c.args.version.now in
    let kept = is_kept (seen_by seat) c.state.result.now (opening_by seat) c.state.ensures c.requires in
    (c.number-number.ensures, sym (reply_as_held c.args.answering (seen_by seat) c.state.result.now c.args.question.now c.args.now kept) ∙ c.if-reply_by.ensures.reply)

pub returns-else-reply_by : goal.returns-else-reply_by
returns-else-reply_by c =
    let seat = seat_in c.args.version.now in
    let kept = is_kept (seen_by seat) c.state.result.now (opening_by seat) c.state.ensures c.requires in
    (c.number-number.ensures, sym (reply_as_held c.args.answering (seen_by seat) c.state.result.now c.args.question.now c.args.now kept) ∙ c.if-reply_by.ensures.reply.0)
