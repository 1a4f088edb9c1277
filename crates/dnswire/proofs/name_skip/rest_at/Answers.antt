use Rattle.std.proofs.Common.{arith}
use Rattle.dnswire.proofs.RunLemmas.{too_long, leads_to_size, leads_on, closed_size}
use Rattle.dnswire.proofs.name_skip.rest_at.Goals as goal

pub returns-then-known-room-clause-faulty : goal.returns-then-known-room-clause-faulty
returns-then-known-room-clause-faulty c =
    let kept = c.loop-size.invariant in
    let has = c.requires.sizes c.loop-size.start (omega (arith, c.known_size-known.ensures, c.if-known-room.true)) in
    λ _. too_long _ _ c.loop-size.start _ _ _ kept.leads has (omega (arith, c.known_size-known.ensures, c.if-known-room.true, kept.within))

pub returns-in_default-next-clause-read : goal.returns-in_default-next-clause-read
returns-in_default-next-clause-read c =
    let ends = rw c.in_default-next.is at c.in-Some.ensures.read.ends in
    let closed = closed_size _ _ _ c.in-Some.ensures.read.passed ends in
    (leads_to_size _ _ _ _ _ _ c.loop-size.invariant.leads closed (omega arith), omega (arith, c.in-Some.ensures.room))

pub loop-size-preserved-else-steps-gt-MOST_STEPS :
    goal.loop-size-preserved-else-steps-gt-MOST_STEPS
loop-size-preserved-else-steps-gt-MOST_STEPS c =
    let ends = rw c.in-Some-next.is at c.in-Some.ensures.read.ends in
    record {
      leads = leads_on _ _ _ _ _ _ c.loop-size.invariant.leads c.in-Some.ensures.read.passed ends.0 ends.1;
      within = omega (arith, c.in-Some.ensures.room);
      few = omega (arith, c.if-steps-gt-MOST_STEPS.false);
    }

pub loop-size-preserved : goal.loop-size-preserved
loop-size-preserved c =
    let ends = rw c.in-Some-next.is at c.in-Some.ensures.read.ends in
    record {
      leads = leads_on _ _ _ _ _ _ c.loop-size.invariant.leads c.in-Some.ensures.read.passed ends.0 ends.1;
      within = omega (arith, c.in-Some.ensures.room);
      few = c.loop-size.invariant.few;
    }
