-- No public clause cites this module: the numbers of 64 bits by which sets are sought.
use Rattle.std.specs.Prelude.{ℕ, zero, suc, ◌+◌, ◌-◌, ◌*◌, ◌/◌, ◌%◌, ◌^◌, nat_lt, if◌then◌else◌, List, length, drop, fold}
use Rattle.std.specs.Int.{w64, rotate_left, from_le_bytes}
use Rattle.dname.specs.Name.{Label, wire_of}
use Rattle.dname.specs.declared.types.TheConstants.{CNAME_TYPE}
use Rattle.denial_records.specs.declared.record.Record.{Record}
use Rattle.denial_records.specs.declared.record.Record.TheVariants.{Set, Nsec, Nsec3}

-- one number more: the product's better half comes to lie below
unfoldable pub mixed : ℕ → ℕ → ℕ
mixed hash number = rotate_left w64 ((hash + number) % 2 ^ 64 * 11400714819323198485 % 2 ^ 64) 32

-- the first eight octets as one number
abbrev pub word_of : List ℕ → ℕ
word_of octets = from_le_bytes w64 octets

-- so many words of eight octets more
abbrev pub words_mixed : ℕ → List ℕ → ℕ → ℕ
words_mixed zero octets hash = hash
words_mixed (suc n) octets hash = words_mixed n (drop 8 octets) (mixed hash (word_of octets))

-- all whole words, and then the last eight octets, which may overlap them; octet by octet where there are fewer than eight
unfoldable pub hash_of : List ℕ → ℕ
hash_of octets =
    if nat_lt (length octets) 8
    then fold mixed 0 octets
    else mixed (words_mixed (length octets / 8) octets 0) (word_of (drop (length octets - 8) octets))

-- 16 bits of a zone, by its apex's wire form
abbrev pub zone_part : List Label → ℕ
zone_part zone = hash_of (wire_of zone) % 2 ^ 16

-- 32 bits of an owner name
abbrev pub owner_part : List Label → ℕ
owner_part owner = hash_of (wire_of owner) % 2 ^ 32

-- 16 bits of a type, with which a CNAME set comes first
abbrev pub type_part : ℕ → ℕ
type_part rtype = (rtype + (2 ^ 16 - CNAME_TYPE)) % 2 ^ 16

-- the least of an owner name's sets
abbrev pub owner_number : List Label → List Label → ℕ
owner_number zone owner = zone_part zone * 2 ^ 48 + owner_part owner * 2 ^ 16

-- of a set: those of one owner name stand side by side
abbrev pub set_number : List Label → List Label → ℕ → ℕ
set_number zone owner rtype = owner_number zone owner + type_part rtype

abbrev pub set_mark : Record → ℕ
set_mark (Set set) = set_number set.zone set.owner set.rtype
set_mark (Nsec nsec) = 0
set_mark (Nsec3 nsec3) = 0
