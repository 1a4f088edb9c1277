use Rattle.std.proofs.Common.{refl}
use Rattle.std.proofs.lemmas.Bool.{false≢true}
use Rattle.std.proofs.lemmas.Result.{IfOk-weaker}
use Rattle.run_audit.specs.Pairs.{input_in, output_in}
use Rattle.run_audit.proofs.CheckLemmas.{asked_none, asked_some}
use Rattle.run_audit.proofs.pair_check.check_asked.Goals as goal

pub returns-in-None-clause-checked : goal.returns-in-None-clause-checked
returns-in-None-clause-checked c = λ placed kept number_is.
    asked_none c.args.search.now placed c.args.store.now c.args.number (input_in c.args.pair.now) (output_in c.args.pair.now) c.args.question.now c.says.result c.told.result
    c.requires.kind c.requires.read kept number_is (λ some. false≢true (c.in-None.ensures.exact.1 some)) c.says.ensures c.told.ensures

pub returns-in-Some-clause-checked : goal.returns-in-Some-clause-checked
returns-in-Some-clause-checked c =
    IfOk-weaker c.check_reply.result _ _
    (λ checked found placed kept number_is.
    asked_some c.args.search.now placed c.args.store.now c.args.number (input_in c.args.pair.now) (output_in c.args.pair.now) c.args.question.now c.in-Some.verdict checked
    c.requires.kind c.requires.read kept number_is c.in-Some.ensures.proved (c.in-Some.ensures.exact.0 refl) found)
    c.check_reply.ensures.checked
