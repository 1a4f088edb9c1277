use Rattle.std.proofs.Common.{sym, subst}
use Rattle.intake.proofs.NewLemmas.{HasLooked, looked_none, looked_more, looked_all}
use Rattle.intake.proofs.each_once.are_new.Goals as goal

pub loop-item-init : goal.loop-item-init
loop-item-init c = subst (HasLooked c.args.octets.now 0 c.new-seen.result) (sym c.new-new.ensures.items) (looked_none c.args.octets.now c.new-seen.result c.new-seen.ensures.empty)

pub loop-item-preserved : goal.loop-item-preserved
loop-item-preserved c =
    looked_more c.args.octets.now c.loop-item.item-index c.loop-item.seen c.insert.new.self c.loop-item.new.items c.push.new.self.items c.item-item.result c.as_slice.result c.in_ok-insert.field-0
    c.loop-item.invariant c.loop-item-test.true c.item-item.is c.as_slice.ensures c.in_ok-insert.ensures.added c.in_ok-insert.ensures.updates c.in_ok-push.ensures.items

pub returns : goal.returns
returns c = looked_all c.args.octets.now c.loop-item.item-index c.loop-item.seen c.loop-item.new.items c.loop-item.invariant c.loop-item-test.false
