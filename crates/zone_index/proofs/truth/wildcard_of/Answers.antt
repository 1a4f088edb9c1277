use Rattle.std.proofs.Common.{arith}
use Rattle.std.proofs.lemmas.Bool.{false≢true}
use Rattle.zone_meaning.proofs.RoomLemmas.{wildcard_fits_above}
use Rattle.zone_index.proofs.truth.wildcard_of.Goals as goal

pub unreachable-requires : goal.unreachable-requires
unreachable-requires c =
    let fits = wildcard_fits_above c.args.name.now c.args.encloser.now c.wire-wire.ensures.name c.requires.0 c.requires.1 in
    false≢true (c.in-None.ensures.room.1 (omega (arith, fits)))
