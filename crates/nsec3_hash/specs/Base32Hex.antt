-- The text of a hash: base32hex (RFC 4648, section 7) in small letters. A hash of 160 bits is 32 digits of five bits,
-- so that no padding is needed.
use Rattle.std.specs.Prelude.{◌≡◌, ℕ, zero, suc, ◌+◌, ◌-◌, ◌/◌, ◌%◌, ◌<◌, ◌≤◌, ◌⊎◌, nat_lt, if◌then◌else◌, List, [], ◌∷◌, ◌++◌, length, map}
use Rattle.std.specs.List.{All}
use Rattle.std.specs.Char.{to_ascii_lowercase}
use Rattle.std.specs.Int.Digits.{number_from_digits}

-- a hash is 20 octets
pub record IsHash (hash : List ℕ) : Type 0 where
  pub size : length hash ≡ 20
  pub octets : All (λ octet. octet < 256) hash

-- the digit of a value below 32: '0' to '9', and then 'a' to 'v'
abbrev pub digit_of : ℕ → ℕ
digit_of value = if nat_lt value 10 then 48 + value else 97 + (value - 10)

-- the values of a number's last digits in base 32, so many, the highest first
unfoldable pub values_of : ℕ → ℕ → List ℕ
values_of zero number = []
values_of (suc count) number = values_of count (number / 32) ++ number % 32 ∷ []

-- the number that the octets are, the first the highest, written in base 32 with 32 digits
abbrev pub text_of : List ℕ → List ℕ
text_of hash = map digit_of (values_of 32 (number_from_digits 256 hash))

-- '0' to '9', or 'a' to 'v'
abbrev pub IsDigit : ℕ → Type 0
IsDigit octet = ((48 ≤ octet) × (octet ≤ 57)) ⊎ ((97 ≤ octet) × (octet ≤ 118))

-- 32 digits, in either case
pub record IsText (text : List ℕ) : Type 0 where
  pub size : length text ≡ 32
  pub digits : All (λ octet. IsDigit (to_ascii_lowercase octet)) text
