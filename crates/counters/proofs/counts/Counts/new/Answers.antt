use Rattle.std.proofs.Common.{refl}
use Rattle.counters.specs.Counts.{no_counts}
use Rattle.counters.proofs.counts.Counts.new.Goals as goal

pub returns : goal.returns
unfolding no_counts
returns c = refl
