use Rattle.std.proofs.Common.{◌-◌, subst, arith}
use Rattle.std.proofs.Math.Seq.{drop-cons}
use Rattle.dnswire.specs.Runs.{HasEnd}
use Rattle.dnswire.proofs.RunSizeLemmas.{ends_on, kept_size, no_room_at, no_room_known, keep_run}
use Rattle.dnswire.proofs.run_sizes.+end_by.Goals as goal
use Rattle.dnswire.proofs.run_sizes.+end_by.Goals.{then-room-eq0-via-then-room-eq0, then-room-eq0-via-else-room-eq0+then-at-message}

pub returns-then-room-eq0-clause-none : goal.returns-then-room-eq0-clause-none
returns-then-room-eq0-clause-none t c = no_room_at c.args.message.now c.args.at c.args.room (λ some within. elim c.then-room-eq0.branch [
  | then-room-eq0-via-then-room-eq0 w ↦ absurd (omega (arith, w.if-room-eq0, some))
  | then-room-eq0-via-else-room-eq0+then-at-message w ↦ absurd (omega (arith, w.if-at-message, within))
])

pub returns-then-known-room-clause-none : goal.returns-then-known-room-clause-none
returns-then-known-room-clause-none t c =
    no_room_known c.args.message.now c.args.at c.known_size-known.result c.args.room (kept_size _ _ _ _ c.requires.sizes c.known_size-known.ensures (omega (arith, c.if-known-room.true, c.if-room-eq0.false))) (omega (arith, c.if-known-room.true))

pub returns-then-at-sizes-clause-read : goal.returns-then-at-sizes-clause-read
returns-then-at-sizes-clause-read t c =
    ends_on _ c.args.at c.from-size.result _ _ c.in-Some.last (drop-cons c.args.message.now c.args.at 0 (omega (arith, c.if-at-message.false))) (omega (arith, c.from-size.ensures)) (omega (arith, c.if-size-eq0.false)) (omega (arith, c.if-size-gt63.false)) c.in-Some.ensures.read

pub returns-then-at-sizes-clause-sizes : goal.returns-then-at-sizes-clause-sizes
returns-then-at-sizes-clause-sizes t c =
    let ends = returns-then-at-sizes-clause-read t c in
    keep_run _ _ c.args.at (c.in-Some.last - c.args.at) c.in-Some.ensures.sizes (omega (arith, c.if-at-sizes.true)) (subst (HasEnd c.args.message.now c.args.at) (omega (arith, ends.end.passed.order)) ends)

pub returns-else-at-sizes-clause-read : goal.returns-else-at-sizes-clause-read
returns-else-at-sizes-clause-read t c =
    ends_on _ c.args.at c.from-size.result _ _ c.in-Some.last (drop-cons c.args.message.now c.args.at 0 (omega (arith, c.if-at-message.false))) (omega (arith, c.from-size.ensures)) (omega (arith, c.if-size-eq0.false)) (omega (arith, c.if-size-gt63.false)) c.in-Some.ensures.read
