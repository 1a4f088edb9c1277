use Rattle.std.proofs.Common.{◌∙◌, Some, refl, sym, ap}
use Rattle.reply_core.specs.Answered.{proof_in}
use Rattle.resolver.proofs.ReplyLemmas.{sound_of}
use Rattle.stream_server.proofs.ReplyLemmas.{verdict_is_long_reply}
use Rattle.stream_server.proofs.replying.long_reply.Goals as goal

pub returns-clause-reply : goal.returns-clause-reply
returns-clause-reply c =
    verdict_is_long_reply c.args.store.now c.args.question.now c.args.now c.in-Some.verdict c.in-Some.ensures.proved (c.in-Some.ensures.exact.0 refl) ∙ ap Some (sym c.write_long_reply.ensures.value)

pub returns-clause-sound : goal.returns-clause-sound
returns-clause-sound c =
    let question = c.args.question.now in
    sound_of question.name question.qtype c.args.now (proof_in c.args.store.now question c.args.now) c.in-Some.verdict c.in-Some.ensures.proved c.in-Some.ensures.sound
