use Rattle.std.proofs.Common.{rules, ap}
use Rattle.cache_versions.proofs.Deals.{splits}
use Rattle.cache_versions.proofs.dealer.Dealer.cut.Goals as goal

pub split_seat-requires : goal.split_seat-requires
split_seat-requires c = (search rules, search rules, splits _ _ _ c.requires.some (ap (λ m. m.0.places) c.requires.none_dealt))
