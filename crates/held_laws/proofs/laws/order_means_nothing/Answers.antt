use Rattle.held_laws.proofs.SameLemmas.{same_zone, same_set, same_nsec, same_nsec3}
use Rattle.held_laws.proofs.laws.order_means_nothing.Goals as goal

pub returns : goal.returns
returns c = record { zone = same_zone; chains = λ held other order. order.chains; set = same_set; nsec = same_nsec; nsec3 = same_nsec3 }
