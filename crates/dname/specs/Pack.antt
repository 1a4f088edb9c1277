-- Strings of octets that lie one behind another, each after its length.
use Rattle.std.specs.Prelude.{◌≡◌, ℕ, ◌+◌, ◌*◌, ◌/◌, ◌%◌, ◌^◌, ◌<◌, ◌==◌, nat_lt, if◌then◌else◌, zero, suc, List, [], ◌∷◌, ◌++◌, length, take, drop, slice_index}
use Rattle.std.specs.List.{All}
use Rattle.std.specs.Int.{to_be_bytes}
use Rattle.std.specs.Slice.Scan.{big_endian}
use mir.Syntax.{w64}

-- a string that memory can hold
abbrev pub HasPlace : List ℕ → Type 0
HasPlace piece = length piece < 2 ^ 63

-- a length in three octets, the high octet first, and in eight behind an octet of 255
abbrev pub three_of : ℕ → List ℕ
three_of size = size / 65536 ∷ size / 256 % 256 ∷ size % 256 ∷ []

abbrev pub nine_of : ℕ → List ℕ
nine_of size = 255 ∷ to_be_bytes w64 size

-- the octets of a length: three where the first of them is below 255
abbrev pub head_of : ℕ → List ℕ
head_of size = if nat_lt size 16711680 then three_of size else nine_of size

abbrev pub packed : List (List ℕ) → List ℕ
packed [] = []
packed (piece ∷ rest) = head_of (length piece) ++ (piece ++ packed rest)

-- how many octets the length at the front takes, and the length
abbrev pub head_size : List ℕ → ℕ
head_size octets = if slice_index octets 0 == 255 then 9 else 3

abbrev pub size_at : List ℕ → ℕ
size_at octets =
    if slice_index octets 0 == 255 then big_endian 0 (take 8 (drop 1 octets))
    else (slice_index octets 0 * 256 + slice_index octets 1) * 256 + slice_index octets 2

-- the string at the front, and what lies behind it
abbrev pub first_piece : List ℕ → List ℕ
first_piece octets = take (size_at octets) (drop (head_size octets) octets)

abbrev pub behind_first : List ℕ → List ℕ
behind_first octets = drop (size_at octets) (drop (head_size octets) octets)

-- the strings that octets spell, which `packed` gives back; at most so many
abbrev pub pieces_within : ℕ → List ℕ → List (List ℕ)
pieces_within zero octets = []
pieces_within (suc n) [] = []
pieces_within (suc n) (octet ∷ rest) =
    first_piece (octet ∷ rest) ∷ pieces_within n (behind_first (octet ∷ rest))

abbrev pub pieces_of : List ℕ → List (List ℕ)
pieces_of octets = pieces_within (length octets) octets

-- the octets are those of strings
pub record IsPacked (octets : List ℕ) : Type 0 where
  pub spelled : octets ≡ packed (pieces_of octets)
  pub each : All HasPlace (pieces_of octets)

-- the octets are a string and, packed, the strings behind it
pub record BeginsWithPiece (octets piece rest : List ℕ) : Type 0 where
  pub packed : IsPacked rest
  pub pieces : pieces_of octets ≡ piece ∷ pieces_of rest
