use Rattle.std.proofs.Common.{◌≡◌, ◌*◌, length, map, take}
use Rattle.std.specs.Int.Digits.{number_from_digits}
use Rattle.nsec3_hash.specs.Base32Hex.{digit_of, values_of}
use Rattle.nsec3_hash.proofs.base32hex.to_base32hex.Given as goal

-- the digits so far are those of the octets so far
abbrev pub invariant-groups : goal.invariant-groups
invariant-groups l = record {
  size : length l.text ≡ 32;
  written : take (8 * l.group) l.text ≡ map digit_of (values_of (8 * l.group) (number_from_digits 256 (take (5 * l.group) l.hash)));
}
