use Rattle.counters.proofs.CountLemmas.{each_is_a_sum}
use Rattle.counters.proofs.laws.each_count_is_a_sum.Goals as goal

pub returns : goal.returns
returns c = each_is_a_sum
