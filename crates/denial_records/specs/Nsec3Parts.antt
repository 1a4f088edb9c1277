-- The data of an NSEC3 record (RFC 5155, section 3.2).
use Rattle.std.specs.Prelude.{◌≡◌, ◌≢◌, ℕ, ◌+◌, ◌≤◌, ◌<◌, List, length, take, drop, slice_index}
use Rattle.byteorder.specs.Endian.{big_number}
use Rattle.denial_records.specs.TypeSet.{IsTypeMap, IsNoTypeMap}
use Rattle.denial_records.specs.declared.nsec3_parts.Nsec3Parts.{Nsec3Parts}
use Rattle.denial_records.specs.declared.nsec3_parts.TheConstants.{FIXED_OCTETS, HASH_OCTETS}

-- hash algorithm, flags, two octets of iterations, and at offset 4 the salt's length, which the salt follows
abbrev pub salt_size : List ℕ → ℕ
salt_size octets = slice_index octets 4

-- the hash's length follows the salt
abbrev pub hash_size : List ℕ → ℕ
hash_size octets = slice_index octets (FIXED_OCTETS + salt_size octets)

-- the offset of the hash
abbrev pub hash_offset : List ℕ → ℕ
hash_offset octets = FIXED_OCTETS + salt_size octets + 1

-- the offset after the hash, where the type bit maps begin
abbrev pub map_offset : List ℕ → ℕ
map_offset octets = hash_offset octets + hash_size octets

-- a fixed part, the salt or the hash runs past the end; a length that isn't there counts as 0
abbrev pub IsShort : List ℕ → Type 0
IsShort octets = length octets < map_offset octets

-- the fixed parts, the salt and the hash are there, and the hash is no SHA-1 hash (RFC 5155, section 11)
pub record HasBadHash (octets : List ℕ) : Type 0 where
  pub whole : map_offset octets ≤ length octets
  pub hash : hash_size octets ≢ HASH_OCTETS

-- the octets are these parts
pub record IsNsec3 (octets : List ℕ) (parts : Nsec3Parts) : Type 0 where
  pub whole : map_offset octets ≤ length octets
  pub hash : hash_size octets ≡ HASH_OCTETS
  pub algorithm_number : parts.algorithm ≡ slice_index octets 0
  pub flag_bits : parts.flags ≡ slice_index octets 1
  pub more_times : parts.iterations ≡ big_number 2 (drop 2 octets)
  pub salted : parts.salt ≡ take (salt_size octets) (drop FIXED_OCTETS octets)
  pub next_hash : parts.next ≡ take HASH_OCTETS (drop (hash_offset octets) octets)
  pub map : IsTypeMap (drop (map_offset octets) octets) parts.types

-- all but the type bit maps is well formed
pub record HasBadMap (octets : List ℕ) : Type 0 where
  pub whole : map_offset octets ≤ length octets
  pub hash : hash_size octets ≡ HASH_OCTETS
  pub bad : IsNoTypeMap (drop (map_offset octets) octets)
