use Rattle.held_laws.proofs.ListedLemmas.{all_are_listed}
use Rattle.held_laws.proofs.OnceLemmas.{all_once}
use Rattle.held_laws.proofs.laws.each_chain_has_a_record.Goals as goal

pub returns : goal.returns
returns c = record {
  has_record = λ batches. (all_are_listed batches).has_record;
  is_listed = λ batches. (all_are_listed batches).is_listed;
  once = all_once;
}
