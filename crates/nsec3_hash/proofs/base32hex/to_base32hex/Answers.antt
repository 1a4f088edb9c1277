use Rattle.std.proofs.Common.{rules, ◌+◌, ◌*◌, ◌<◌, ◌∙◌, arith}
use Rattle.std.proofs.lemmas.List.{places}
use Rattle.std.proofs.lemmas.List.Elements.{All-from_get_or}
use Rattle.std.proofs.lemmas.Slice.{take-put_mid}
use Rattle.nsec3_hash.specs.Base32Hex.{values_of}
use Rattle.nsec3_hash.proofs.TextLemmas.{written_more}
use Rattle.nsec3_hash.proofs.base32hex.to_base32hex.Goals as goal

pub groups-init : goal.groups-init
unfolding values_of
groups-init c = search rules

pub groups-preserved : goal.groups-preserved
groups-preserved c = record {
  size = search (rules, places);
  written = written_more c.groups.group _ c.args.hash.now _ _ _ (All-from_get_or (λ octet. octet < 256) c.args.hash.now 0 (λ i _. c.fits-hash i)) (search rules) c.groups.invariant.written
      c.number_of_octets-number.ensures (c.copy_from_slice.ensures.after ∙ c.digits_of.ensures)
      (take-put_mid (8 * c.groups.group) _ c.groups.text c.copy_from_slice.new.self (8 * (c.groups.group + 1)) (omega (arith, c.copy_from_slice.ensures.len, c.groups.invariant.size)) (omega (arith, c.groups.invariant.size)));
}
