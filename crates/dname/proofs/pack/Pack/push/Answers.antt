use Rattle.std.proofs.Common.{arith, ◌∙◌}
use Rattle.dname.proofs.PackLemmas.{head_three, head_nine}
use Rattle.dname.proofs.pack.Pack.push.Goals as goal

pub append-requires-clause-head : goal.append-requires-clause-head
append-requires-clause-head c = c.three_of.ensures ∙ head_three _ (omega arith)

pub append-requires-else-size-lt-LONG-clause-head : goal.append-requires-else-size-lt-LONG-clause-head
append-requires-else-size-lt-LONG-clause-head c = c.nine_of.ensures ∙ head_nine _ (omega arith)
