use Rattle.std.proofs.Common.{ℕ, ◌<◌, ◌^◌, List, get_or, subst}
use Rattle.counters.specs.Counts.{index_of}
use Rattle.counters.proofs.counts.Counts.each_is_small.Goals as goal

pub returns : goal.returns
returns c counter = subst (λ (l : List ℕ). get_or l (index_of counter) 0 < 2 ^ 64) c.self.view_is (c.are_small.ensures (index_of counter))
