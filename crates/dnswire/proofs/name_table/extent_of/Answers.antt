use Rattle.std.proofs.Common.{[], refl, arith}
use Rattle.dnswire.proofs.ExpansionLemmas.{kept_at, size_kept, expands_none, expands_long}
use Rattle.dnswire.proofs.name_table.extent_of.Goals as goal

pub returns-then-known-room-clause-faulty : goal.returns-then-known-room-clause-faulty
returns-then-known-room-clause-faulty c = λ _.
    let kept = kept_at c.args.message.now c.args.table.now.octets.items c.args.table.now.extents.items c.args.at c.extent_at-known.result c.requires.table.kept c.extent_at-known.ensures (omega (arith, c.if-known-room.true)) in
    expands_long c.args.message.now c.args.at c.args.at _ [] _ (expands_none _ _ _ refl) kept.octets (omega (arith, size_kept _ _ _ _ kept, c.if-known-room.true))

pub returns-in_default-add-clause-table : goal.returns-in_default-add-clause-table
returns-in_default-add-clause-table c = c.add.ensures.table c.args.message.now c.rest_at.ensures.table

pub remember-requires-clause-table : goal.remember-requires-clause-table
remember-requires-clause-table c = c.add.ensures.table c.args.message.now c.rest_at.ensures.table
