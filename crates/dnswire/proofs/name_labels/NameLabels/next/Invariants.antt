use Rattle.std.proofs.Common.{◌≡◌}
use Rattle.dnswire.proofs.NameLabelsLemmas.{SameLeft}
use Rattle.dnswire.proofs.name_labels.NameLabels.next.Given as goal

-- no label was taken off yet
abbrev pub invariant-loop-self : goal.invariant-loop-self
invariant-loop-self l = record { same : SameLeft l.fn.self l.self; size : l.fn.self.size ≡ l.self.size }

abbrev pub decreases-loop-self : goal.decreases-loop-self
decreases-loop-self l = l.self.start
