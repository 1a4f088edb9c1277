use Rattle.std.proofs.Common.{◌≡◌, ◌<◌, ◌^◌, map, take}
use Rattle.std.specs.Char.{to_ascii_lowercase}
use Rattle.std.specs.List.{All}
use Rattle.dname.specs.Name.{lowered}
use Rattle.nsec3_hash.specs.Base32Hex.{digit_of, values_of, IsDigit}
use Rattle.nsec3_hash.proofs.base32hex.number_of_digits.Given as goal

-- the number is that of the digits so far
abbrev pub invariant-loop-digit : goal.invariant-loop-digit
invariant-loop-digit l = record {
  small : l.number < 32 ^ l.digit-index;
  digits : All (λ octet. IsDigit (to_ascii_lowercase octet)) (take l.digit-index l.digits);
  written : map digit_of (values_of l.digit-index l.number) ≡ lowered (take l.digit-index l.digits);
}
