use Rattle.reply_core.specs.Owner.{labels_of}
use Rattle.reply_core.proofs.RecordLemmas.{PutsAll}
use Rattle.std.proofs.Common.{length}
use Rattle.reply_core.proofs.records.put_list.Given as goal

abbrev pub invariant-loop-item : goal.invariant-loop-item
invariant-loop-item g l =
    PutsAll l.ttl (labels_of l.owner) l.rtype l.fn.items l.initial.draft l.rest l.draft l.count

abbrev pub decreases-loop-item : goal.decreases-loop-item
decreases-loop-item g l = length l.rest
