use Rattle.std.proofs.Common.{◌≡◌, Bool, map}
use Rattle.std.specs.Arc.{arc_value}
use Rattle.std.specs.Fn.{FnReturnsAt}
use Rattle.range_index.proofs.KeptLemmas.{HasKept}
use Rattle.range_index.proofs.kept.kept_shares.Given as goal

abbrev pub invariant-loop-share : goal.invariant-loop-share
invariant-loop-share g l =
    HasKept g.R.Key.Ord.cmp g.R.RingSpan.start g.R.RingSpan.end (λ p. (x : _) (r : Bool) → FnReturnsAt g.F.Fn l.keep x r → r ≡ p x) l.list (map arc_value l.made.items) l.share-iterator
