use Rattle.std.proofs.Common.{refl}
use Rattle.zone_meaning.specs.ZoneTable.{zone_record}
use Rattle.audit_source.proofs.TakingLemmas.{one_taken, taking_stops}
use Rattle.audit_source.proofs.taking.take_entries.Goals as goal

pub returns-in_default : goal.returns-in_default
returns-in_default c = λ entries rest number others.
    taking_stops c.args.octets.now c.args.zone.now.apex c.loop.counter c.loop.zone c.loop.refused c.loop.rest.now c.loop.invariant (c.in_default.ensures.none refl) c.args.count c.loop-test.true entries rest number others

pub loop-preserved : goal.loop-preserved
loop-preserved c =
    one_taken c.args.octets.now c.args.zone.now.apex c.loop.counter c.loop.zone c.take_record.new.zone c.loop.refused c.in_ok-refused.refused c.loop.rest.now c.in-Some.after.now (zone_record c.in-Some.owner c.in-Some.rtype c.in-Some.data.now) c.loop.invariant c.in-Some.ensures.some (c.in_ok-refused.ensures c.args.zone.now.apex)
