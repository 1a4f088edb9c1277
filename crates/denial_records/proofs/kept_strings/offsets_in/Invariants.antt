use Rattle.std.proofs.Common.{◌≡◌, drop, length}
use Rattle.denial_records.specs.Kept.{octets_before, kept_offset, HasOffsets}
use Rattle.denial_records.proofs.kept_strings.offsets_in.Given as goal

abbrev pub invariant-strings : goal.invariant-strings
invariant-strings g l = (length l.offsets ≡ g.row.N)
    × (l.rest ≡ drop l.i l.pack)
    × (l.offset ≡ kept_offset (octets_before l.i l.pack))
    × HasOffsets l.i l.offsets l.pack
