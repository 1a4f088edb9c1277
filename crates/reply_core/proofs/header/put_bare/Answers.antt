use Rattle.reply_core.proofs.DraftLemmas.{put-put}
use Rattle.reply_core.proofs.header.put_bare.Goals as goal

pub returns-clause-value : goal.returns-clause-value
returns-clause-value g c = rw (c.put_opt.ensures, c.put_question.ensures.value, c.put_header.ensures, c.opt_count-opts.ensures) (simp put-put)
