use Rattle.std.proofs.Common.{refl}
use Rattle.std.specs.Prelude.{Err}
use Rattle.reply_core.proofs.RcodeLemmas.{read_rcode}
use Rattle.serving.proofs.DoneLemmas.{no_message}
use Rattle.serving.proofs.answer.answer_in.Goals as goal

pub returns-then-is_answer-clause-rcode : goal.returns-then-is_answer-clause-rcode
returns-then-is_answer-clause-rcode c = read_rcode c.args.octets.now c.type_inv.octets c.in-Ok.message c.in-Ok.ensures.read

pub returns-in_ok-pass_over-in-Err-clause-answer : goal.returns-in_ok-pass_over-in-Err-clause-answer
returns-in_ok-pass_over-in-Err-clause-answer c =
    λ message is answer. no_message (Err c.in-Err.fault) c.in-Err.fault message refl c.in_ok-pass_over-in-Err.ensures (c.in-Err.ensures.every_message message is)
