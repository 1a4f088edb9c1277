-- A zone made to measure, by a seed and a number of names: hosts, empty non-terminals, cuts and wildcards in kind.
use Rattle.std.specs.Prelude.{ℕ, ◌+◌, ◌*◌, ◌/◌, ◌%◌, ◌^◌, zero, suc, if◌then◌else◌, ◌==◌, List, [], ◌∷◌, ◌++◌, map, codes}
use Rattle.std.specs.List.{range_with_len}
use Rattle.byteorder.specs.Endian.{big_bytes}
use Rattle.dname.specs.Name.{Label, asterisk, wire_of}
use Rattle.dname.specs.declared.types.TheConstants.{A_TYPE, NS_TYPE, SOA_TYPE}
use Rattle.zone_meaning.specs.Zone.{Zone, ZoneRecord}
use Rattle.zone_meaning.specs.ZoneTable.{zone_record}

-- ---- names

-- the name at the zone's top
abbrev pub made_example : List Label
made_example = codes "made" ∷ codes "example" ∷ []

abbrev pub name_server : List Label
name_server = codes "ns" ∷ codes "example" ∷ []

-- the last decimal digit, in ASCII
abbrev pub digit : ℕ → ℕ
digit n = 48 + n % 10

abbrev pub six_digits : ℕ → List ℕ
six_digits i =
    digit (i / 100000) ∷ digit (i / 10000) ∷ digit (i / 1000) ∷ digit (i / 100) ∷ digit (i / 10) ∷ digit i ∷ []

-- name number i: n and six digits
abbrev pub name_at : ℕ → List Label
name_at i = (codes "n" ++ six_digits i) ∷ made_example

-- ---- what a name is

-- the names are in kind a host, an empty non-terminal above a host, a cut, and an empty non-terminal above a wildcard
pub data NameKind : Type 0 where
  Host : NameKind
  Above : NameKind
  Cut : NameKind
  Wild : NameKind

abbrev pub kind_from : ℕ → NameKind
kind_from zero = Host
kind_from (suc zero) = Above
kind_from (suc (suc zero)) = Cut
kind_from (suc (suc (suc n))) = Wild

abbrev pub kind_at : ℕ → NameKind
kind_at i = kind_from (i % 4)

-- the owner that a name gives: itself, or a name below it
abbrev pub owner_in : NameKind → List Label → List Label
owner_in Host name = name
owner_in Above name = codes "x" ∷ name
owner_in Cut name = name
owner_in Wild name = asterisk ∷ name

abbrev pub type_in : NameKind → ℕ
type_in Host = A_TYPE
type_in Above = A_TYPE
type_in Cut = NS_TYPE
type_in Wild = A_TYPE

-- ---- records

-- 10, and the low three octets of a number that the seed and i give
abbrev pub address_at : ℕ → ℕ → List ℕ
address_at seed i = 10 ∷ big_bytes 3 ((seed * 2654435761 + i) % 2 ^ 24)

abbrev pub data_in : NameKind → ℕ → ℕ → List ℕ
data_in Host seed i = address_at seed i
data_in Above seed i = address_at seed i
data_in Cut seed i = wire_of name_server
data_in Wild seed i = address_at seed i

abbrev pub record_in : NameKind → ℕ → ℕ → ZoneRecord
record_in kind seed i = zone_record (owner_in kind (name_at i)) (type_in kind) (data_in kind seed i)

-- the root for the server and the mailbox, serial 1, refresh 3600, retry 600, expire 86400, minimum 300 (RFC 1035, section
-- 3.3.13)
abbrev pub soa_data : List ℕ
soa_data =
    wire_of [] ++ wire_of [] ++ big_bytes 4 1 ++ big_bytes 4 3600 ++ big_bytes 4 600 ++ big_bytes 4 86400 ++ big_bytes 4 300

-- the records of the apex, and one for each name
abbrev pub made_zone : ℕ → ℕ → Zone
made_zone seed names = record {
  apex = made_example;
  records =
      zone_record made_example SOA_TYPE soa_data
      ∷ zone_record made_example NS_TYPE (wire_of name_server)
      ∷ map (λ i. record_in (kind_at i) seed i) (range_with_len 0 names);
}

-- ---- owners

-- the owners in canonical order: the apex, and each that a name gives
abbrev pub made_owner : ℕ → List Label
made_owner zero = made_example
made_owner (suc i) = owner_in (kind_at i) (name_at i)

-- the owner behind it, and the apex behind the last of them (RFC 4034, section 4.1.1)
abbrev pub next_owner : ℕ → ℕ → List Label
next_owner names k = if k == names then made_example else made_owner (suc k)
