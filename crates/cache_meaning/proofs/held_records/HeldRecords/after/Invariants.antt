use Rattle.std.proofs.Common.{◌≡◌, length, drop, fold}
use Rattle.cache_meaning.specs.Held.{is_usable, held_where, held_with}
use Rattle.cache_meaning.proofs.held_records.HeldRecords.after.Given as goal

abbrev pub invariant-loop-i : goal.invariant-loop-i
invariant-loop-i l = record {
  held : fold held_with l.held (drop l.i l.batch.records) ≡ fold held_with (held_where (is_usable l.batch.now) l.self) l.batch.records;
  end : l.i-end ≡ length l.batch.records;
}
