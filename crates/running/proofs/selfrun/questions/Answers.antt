use Rattle.std.proofs.Common.{◌∙◌}
use Rattle.running.proofs.MadeLemmas.{no_questions, one_question}
use Rattle.running.proofs.selfrun.questions.Goals as goal

pub loop-j-init : goal.loop-j-init
loop-j-init c = c.empty-questions.ensures ∙ no_questions c.args.seed c.args.names

pub loop-j-preserved : goal.loop-j-preserved
loop-j-preserved c =
    one_question c.args.seed c.args.names c.loop-j.j c.loop-j.questions c.push.new.self c.in_ok-of.field-0 c.as_slice.result.now
    c.loop-j.invariant (c.as_slice.ensures.value ∙ c.question.ensures) c.in_ok-of.ensures c.in_ok-push.ensures.ok
