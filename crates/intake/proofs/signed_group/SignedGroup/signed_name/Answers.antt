use Rattle.std.proofs.Common.{◌<◌, length, ap, arith}
use Rattle.dname.specs.Name.{wire_of}
use Rattle.intake.proofs.NameLemmas.{wire_above, asterisk_less}
use Rattle.intake.proofs.signed_group.SignedGroup.signed_name.Goals as goal

pub unwrap-requires : goal.unwrap-requires
unwrap-requires c =
    let below : c.from-labels.result < length c.name-owner.result.now = omega (arith, asterisk_less c.name-owner.result.now) in
    let shorter = wire_above c.name-owner.result.now c.from-labels.result c.wire.ensures.name below in
    c.star.ensures.room.1 (omega (arith, shorter, c.wire.ensures.name.fits, ap (λ name. length (wire_of name)) c.last.ensures))
