use Rattle.std.proofs.Common.{◌≡◌, ℕ, ◌≤◌, length, arith, length-append}
use Rattle.dnswire.specs.declared.question.Question.{Question}
use Rattle.reply_core.specs.Draft.{put, blank}
use Rattle.reply_core.specs.Ask.{ask_octets}
use Rattle.reply_core.proofs.DraftLemmas.{put-put, blank-has}
use Rattle.reply_core.proofs.ask.write_ask.Goals as goal

ask_small : (question : Question) (id : ℕ) → length question.asked.items ≤ 259 → length (ask_octets question id) ≤ 512
ask_small question id small = rw length-append (omega arith)

pub returns-clause-value : goal.returns-clause-value
returns-clause-value c =
    let written : c.put_opt.new.draft ≡ put (blank 1232) (ask_octets c.args.question.now c.args.id) = rw (c.put_opt.ensures, c.put_question.ensures.value, c.put_header.ensures, c.restart.ensures, c.ask_flags-flags.ensures, c.opt_count.ensures) (simp put-put) in
    blank-has 1232 (ask_octets c.args.question.now c.args.id) c.put_opt.new.draft written (omega (arith, ask_small c.args.question.now c.args.id c.put_question.ensures.small))

pub returns-clause-small : goal.returns-clause-small
returns-clause-small c = rw (returns-clause-value c) (ask_small c.args.question.now c.args.id c.put_question.ensures.small)
