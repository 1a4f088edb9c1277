use Rattle.run_audit.proofs.PairLemmas.{HasReplies}
use Rattle.run_audit.proofs.auditing.count_replies.Given as goal

abbrev pub invariant-loop-pair : goal.invariant-loop-pair
invariant-loop-pair l = HasReplies l.pairs l.pair-index l.replies
