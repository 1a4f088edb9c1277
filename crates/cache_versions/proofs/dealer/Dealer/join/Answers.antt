use Rattle.std.proofs.Common.{rules}
use Rattle.cache_versions.proofs.Deals.{joins}
use Rattle.cache_versions.proofs.dealer.Dealer.join.Goals as goal

pub join_seat-requires : goal.join_seat-requires
join_seat-requires c = (search rules, search rules, search rules, search rules, joins _ _ _ _ _)
