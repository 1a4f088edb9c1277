use Rattle.std.proofs.Common.{sym, ◌∙◌, ap, arith}
use Rattle.reply_core.specs.Draft.{put}
use Rattle.reply_core.specs.Reply.{rcode_of, authority_records}
use Rattle.reply_core.specs.Sections.{alias_answers, whole_with, truncated_with}
use Rattle.reply_core.specs.Shown.{shown_by}
use Rattle.reply_core.proofs.ReplyLemmas.{sent-truncated, sent-whole}
use Rattle.reply_core.proofs.alias_reply.write_alias_reply_within.Goals as goal

pub returns-then-is_over : goal.returns-then-is_over
returns-then-is_over g c =
    let question = c.args.question.now in
    let proof = shown_by c.args.verdict.now in
    let whole = whole_with question (rcode_of proof.kind) c.args.ttl (alias_answers question c.args.alias.now c.args.target.now proof) (authority_records question proof) in
    let truncated = truncated_with question (rcode_of proof.kind) in
    let sent = sent-truncated c.args.limit whole truncated c.put_whole.new.draft c.put_truncated.new.draft
    c.put_whole.ensures (sym c.is_over.ensures ∙ c.if-is_over.true)
    (c.put_truncated.ensures.value ∙ ap (λ s. put s truncated) c.restart.ensures)
    (omega (arith, c.requires.least, c.put_truncated.ensures.small)) in
    record { value = sent.octets; within_limit = sent.within_limit }

pub returns-else-is_over : goal.returns-else-is_over
returns-else-is_over g c =
    let question = c.args.question.now in
    let proof = shown_by c.args.verdict.now in
    let whole = whole_with question (rcode_of proof.kind) c.args.ttl (alias_answers question c.args.alias.now c.args.target.now proof) (authority_records question proof) in
    let sent = sent-whole c.args.limit whole (truncated_with question (rcode_of proof.kind)) c.put_whole.new.draft c.put_whole.ensures (sym c.is_over.ensures ∙ c.if-is_over.false) in
    record { value = sent.octets; within_limit = sent.within_limit }
