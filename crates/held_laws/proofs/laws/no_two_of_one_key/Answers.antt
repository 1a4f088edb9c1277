use Rattle.held_laws.proofs.ApartLemmas.{all_apart}
use Rattle.held_laws.proofs.SameLemmas.{sets_once, nsecs_once, nsec3s_once}
use Rattle.held_laws.proofs.laws.no_two_of_one_key.Goals as goal

pub returns : goal.returns
returns c = record {
  none = all_apart;
  sets = λ batches. sets_once _ (all_apart batches);
  nsecs = λ batches. nsecs_once _ (all_apart batches);
  nsec3s = λ batches. nsec3s_once _ (all_apart batches);
}
