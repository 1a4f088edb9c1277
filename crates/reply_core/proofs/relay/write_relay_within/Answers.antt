use Rattle.std.proofs.Common.{◌≤◌, length, sym, ◌∙◌, ap, arith}
use Rattle.std.specs.Prelude.{if◌then◌else◌}
use Rattle.reply_core.specs.Draft.{put}
use Rattle.reply_core.specs.Relay.{whole_relay, truncated_relay}
use Rattle.reply_core.proofs.DraftLemmas.{blank-has}
use Rattle.reply_core.proofs.relay.write_relay_within.Goals as goal

pub returns-clause-value : goal.returns-clause-value
returns-clause-value g c =
    let whole = whole_relay c.args.question.now c.args.message.now in
    let truncated = truncated_relay c.args.question.now c.args.message.now in
    blank-has c.args.limit truncated c.put_truncated.new.draft
    (c.put_truncated.ensures.value ∙ ap (λ s. put s truncated) c.restart.ensures)
    (omega (arith, c.requires.least, c.put_truncated.ensures.small))
    ∙ ap (λ fits. if fits then whole else truncated) (sym (sym c.put_within.ensures.exact ∙ c.if-put_within.false))

pub returns-clause-within_limit : goal.returns-clause-within_limit
returns-clause-within_limit g c =
    let truncated = truncated_relay c.args.question.now c.args.message.now in
    let small : length truncated ≤ c.args.limit = omega (arith, c.requires.least, c.put_truncated.ensures.small) in
    rw (blank-has c.args.limit truncated c.put_truncated.new.draft (c.put_truncated.ensures.value ∙ ap (λ s. put s truncated) c.restart.ensures) small) small
