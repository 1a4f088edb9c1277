use Rattle.std.proofs.Common.{sym, ◌∙◌, ap, arith}
use Rattle.reply_core.specs.Draft.{put}
use Rattle.reply_core.specs.Reply.{whole_octets, truncated_octets}
use Rattle.reply_core.specs.Shown.{shown_by}
use Rattle.reply_core.proofs.ReplyLemmas.{sent-truncated, sent-whole}
use Rattle.reply_core.proofs.reply.write_reply_within.Goals as goal

pub returns-then-is_over : goal.returns-then-is_over
returns-then-is_over g c =
    let limit = c.args.limit in
    let whole = whole_octets c.args.question.now (shown_by c.args.verdict.now) c.args.verdict.now.ttl in
    let truncated = truncated_octets c.args.question.now c.args.verdict.now.kind in
    let sent = sent-truncated limit whole truncated c.put_whole.new.draft c.put_truncated.new.draft
    c.put_whole.ensures (sym c.is_over.ensures ∙ c.if-is_over.true)
    (c.put_truncated.ensures.value ∙ ap (λ s. put s truncated) c.restart.ensures)
    (omega (arith, c.requires.least, c.put_truncated.ensures.small)) in
    record { value = sent.octets; within_limit = sent.within_limit }

pub returns-else-is_over : goal.returns-else-is_over
returns-else-is_over g c =
    let whole = whole_octets c.args.question.now (shown_by c.args.verdict.now) c.args.verdict.now.ttl in
    let truncated = truncated_octets c.args.question.now c.args.verdict.now.kind in
    let sent = sent-whole c.args.limit whole truncated c.put_whole.new.draft c.put_whole.ensures (sym c.is_over.ensures ∙ c.if-is_over.false) in
    record { value = sent.octets; within_limit = sent.within_limit }
