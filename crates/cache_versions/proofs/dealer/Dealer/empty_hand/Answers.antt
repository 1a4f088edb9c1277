use Rattle.std.proofs.Common.{rules}
use Rattle.cache_versions.proofs.Deals.{comes}
use Rattle.cache_versions.proofs.dealer.Dealer.empty_hand.Goals as goal

pub load_new_seat-requires : goal.load_new_seat-requires
load_new_seat-requires c = (search rules, comes _ _ _)
