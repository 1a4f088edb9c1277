use Rattle.std.proofs.Common.{arith}
use Rattle.std.specs.Arc.{arc_value}
use Rattle.record_store.proofs.PhaseLemmas.{come_begins, come_goes_on, come_ends}
use Rattle.record_store.proofs.holding.Holding.with_records.Goals as goal

pub loop-i-init : goal.loop-i-init
loop-i-init c = come_begins c.args.self c.args.records.now c.requires

pub loop-i-preserved : goal.loop-i-preserved
loop-i-preserved c =
    come_goes_on c.args.self c.args.records.now c.loop-i.i c.loop-i.holding c.loop-i.invariant (arc_value c.in_ok-share.field-0) c.in_ok-holding.holding (omega arith) c.in_ok-share.ensures c.in_ok-holding.ensures.order c.in_ok-holding.ensures.apart

pub returns : goal.returns
returns c = record {
  order = come_ends c.args.self c.args.records.now c.loop-i.i c.loop-i.holding c.loop-i.invariant (omega arith);
  apart = c.loop-i.invariant.alike.others_apart;
}
