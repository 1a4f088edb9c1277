use Rattle.std.proofs.Common.{rules}
use Rattle.cache_versions.proofs.Deals.{deals}
use Rattle.cache_versions.proofs.dealer.Dealer.deal.Goals as goal

pub compare_exchange-requires : goal.compare_exchange-requires
compare_exchange-requires c = (search rules, search rules, deals _ _ _ c.args.place c.args.hand.now.me c.requires.some)
