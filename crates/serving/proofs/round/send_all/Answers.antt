use Rattle.std.proofs.Common.{◌∙◌, arith}
use Rattle.serving.proofs.RoundLemmas.{part_sent, when_err}
use Rattle.serving.proofs.round.send_all.Goals as goal

pub returns-in_err-send-clause-part : goal.returns-in_err-send-clause-part
returns-in_err-send-clause-part g c =
    when_err c.from_residual.result _
    (part_sent c.args.answers.now c.loop-answer.answer-index c.answer-item.result (g.L.Link.events c.args.link.now) (g.L.Link.events c.send.new.link)
    (omega (arith, c.loop-answer-test.true, c.loop-answer.auto.answer-index-end)) c.answer-item.is c.in_err-send.ensures.some (c.in_err-send.ensures.failed ∙ c.loop-answer.invariant.sent))
