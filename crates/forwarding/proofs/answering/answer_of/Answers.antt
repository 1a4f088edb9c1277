use Rattle.reply_core.proofs.RcodeLemmas.{read_rcode}
use Rattle.forwarding.proofs.ReadLemmas.{unread_is_none}
use Rattle.forwarding.proofs.answering.answer_of.Goals as goal

pub returns-then-is_answer-clause-rcode : goal.returns-then-is_answer-clause-rcode
returns-then-is_answer-clause-rcode c = read_rcode c.args.octets.now c.type_inv.octets c.in-Ok.message c.in-Ok.ensures.read

pub returns-in_ok-pass_over-in-Err-clause-answer : goal.returns-in_ok-pass_over-in-Err-clause-answer
returns-in_ok-pass_over-in-Err-clause-answer c = unread_is_none c.args.octets.now c.in-Err.fault c.in_ok-pass_over-in-Err.ensures c.in-Err.ensures.every_message
