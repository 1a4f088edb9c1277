use Rattle.std.proofs.Common.{rules, tests}
use Rattle.std.proofs.lemmas.Iterator.{YieldsList-from_slice}
use Rattle.std.proofs.lemmas.Iterator.Consumers.{nth_from_yields_List, YieldsList-from_filter}
use Rattle.dname.specs.Tests.{same_name}
use Rattle.cache_meaning.specs.Held.{ZoneChain}
use Rattle.cache_meaning.proofs.held_records.chain_at.Goals as goal

pub returns : goal.returns
returns c =
    nth_from_yields_List c.nth.result c.nth.new.self c.args.place c.nth.ensures.ran
    (YieldsList-from_filter _ (λ (chain : ZoneChain). same_name chain.zone c.args.zone.now) (YieldsList-from_slice c.args.chains.now cc) c.filter.ensures.closure (λ x b q k. search (rules, tests)))
