use Rattle.std.proofs.Common.{◌≡◌, ◌≤◌, ◌++◌, length, ap, arith, ◌∙◌}
use Rattle.dnswire.specs.Expansions.{octets_in}
use Rattle.dnswire.proofs.ExpansionLemmas.{kept_at, size_kept, expands_long, expands_kept, expands_fail, expands_end, expands_on}
use Rattle.dnswire.proofs.name_table.rest_at.Goals as goal

pub returns-then-known-room-clause-none : goal.returns-then-known-room-clause-none
returns-then-known-room-clause-none c =
    let inv = c.loop-known.invariant in
    let kept = kept_at c.args.message.now c.loop-known.table.octets.items c.loop-known.table.extents.items c.loop-known.start c.extent_at-known.result inv.table.kept c.extent_at-known.ensures (omega (arith, c.if-known-room.true)) in
    expands_long _ _ c.loop-known.start _ _ _ inv.expands kept.octets (omega (arith, size_kept _ _ _ _ kept, c.if-known-room.true, inv.within, c.len.ensures.value))

pub returns-then-known-gt0-clause-read : goal.returns-then-known-gt0-clause-read
returns-then-known-gt0-clause-read c =
    let inv = c.loop-known.invariant in
    let kept = kept_at c.args.message.now c.loop-known.table.octets.items c.loop-known.table.extents.items c.loop-known.start c.extent_at-known.result inv.table.kept c.extent_at-known.ensures (omega (arith, c.if-known-gt0.true)) in
    let out : c.append.new.octets.items ≡ c.loop-known.octets.items ++ octets_in c.loop-known.table.octets.items c.extent_at-known.result = c.append.ensures.octets ∙ ap (λ o. c.loop-known.octets.items ++ o) c.octets_of.ensures in
    let fits : length c.append.new.octets.items ≤ c.args.room = omega (arith, c.append.ensures.size, ap length c.octets_of.ensures, size_kept _ _ _ _ kept, c.if-known-room.false, inv.within, c.len.ensures.value) in
    (expands_kept _ _ c.loop-known.start _ _ _ inv.expands kept.octets out (omega (arith, fits, c.requires.room)), fits)

pub returns-in_default-clause-none : goal.returns-in_default-clause-none
returns-in_default-clause-none c =
    expands_fail _ _ c.loop-known.start _ _ c.loop-known.octets.items c.loop-known.invariant.expands (omega (arith, c.len-in-loop-known.ensures.value)) c.in_default.ensures.none

pub returns-in_default-next-clause-read : goal.returns-in_default-next-clause-read
returns-in_default-next-clause-read c =
    let inv = c.loop-known.invariant in
    let ends = rw c.in_default-next.is at c.in-Some.ensures.read.ends in
    let run = c.in-Some.ensures.labels in
    let fits : length c.append-in_default-next.new.octets.items ≤ c.args.room = omega (arith, c.append-in_default-next.ensures.size, c.append_from.ensures.size, c.in-Some.ensures.room, c.len-in-loop-known.ensures.value, inv.within) in
    (expands_end _ _ c.loop-known.start c.in-Some.run'.size _ _ _ run.0 inv.expands run.1 ends c.append_from.ensures.octets c.append-in_default-next.ensures.octets (omega (arith, fits, c.requires.room)), fits)

pub returns-in_default-next-clause-table : goal.returns-in_default-next-clause-table
returns-in_default-next-clause-table c = record { kept = c.loop-known.invariant.table.kept; runs = c.run_by.ensures.sizes }

pub loop-known-preserved : goal.loop-known-preserved
loop-known-preserved c =
    let inv = c.loop-known.invariant in
    let ends = rw c.in-Some-next.is at c.in-Some.ensures.read.ends in
    let run = c.in-Some.ensures.labels in
    record {
      expands = expands_on _ _ c.loop-known.start c.in-Some.run'.size _ _ _ run.0 inv.expands run.1 ends.0 ends.1 c.append_from.ensures.octets;
      within = omega (arith, c.append_from.ensures.size, c.in-Some.ensures.room, c.len-in-loop-known.ensures.value, inv.within);
      table = record { kept = inv.table.kept; runs = c.run_by.ensures.sizes };
    }
