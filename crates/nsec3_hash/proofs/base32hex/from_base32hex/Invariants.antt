use Rattle.std.proofs.Common.{◌≡◌, ◌*◌, map, take}
use Rattle.std.specs.Char.{to_ascii_lowercase}
use Rattle.std.specs.List.{All}
use Rattle.std.specs.Int.Digits.{number_from_digits}
use Rattle.dname.specs.Name.{lowered}
use Rattle.nsec3_hash.specs.Base32Hex.{IsHash, digit_of, values_of, IsDigit}
use Rattle.nsec3_hash.proofs.base32hex.from_base32hex.Given as goal

-- the octets so far are those of the digits so far
abbrev pub invariant-groups : goal.invariant-groups
invariant-groups l = record {
  hash : IsHash l.hash;
  digits : All (λ octet. IsDigit (to_ascii_lowercase octet)) (take (8 * l.group) l.text);
  written : map digit_of (values_of (8 * l.group) (number_from_digits 256 (take (5 * l.group) l.hash))) ≡ lowered (take (8 * l.group) l.text);
}
