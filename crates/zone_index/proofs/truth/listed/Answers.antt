use Rattle.zone_index.proofs.TruthLemmas.{listed_one, listed_all}
use Rattle.zone_index.proofs.truth.listed.Goals as goal

pub loop-item-preserved : goal.loop-item-preserved
loop-item-preserved c = listed_one c.args.items c.loop-item.items c.next.new.self c.loop-item.list.items c.push.new.self.items c.in-Some.item c.loop-item.invariant c.in-Some.ensures.first c.in_ok-push.ensures.items

pub returns : goal.returns
returns c = listed_all c.args.items c.loop-item.items c.loop-item.list.items c.loop-item.invariant c.in_default.ensures.first
