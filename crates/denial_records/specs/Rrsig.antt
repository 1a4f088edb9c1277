-- The data of an RRSIG record before its signature (RFC 4034, section 3.1).
use Rattle.std.specs.Prelude.{◌≡◌, ℕ, ◌≤◌, List, length, drop, slice_index}
use Rattle.dname.specs.Read.{Spells}
use Rattle.byteorder.specs.Endian.{big_number}
use Rattle.denial_records.specs.declared.rrsig.Rrsig.{Rrsig}
use Rattle.denial_records.specs.declared.rrsig.TheConstants.{FIXED_OCTETS}

-- the octets begin with these fields, 18 octets and the signer's name; the signature after them may be anything
pub record IsRrsig (octets : List ℕ) (rrsig : Rrsig) : Type 0 where
  pub whole : FIXED_OCTETS ≤ length octets
  pub type_covered : rrsig.covered ≡ big_number 2 octets
  pub algorithm_number : rrsig.algorithm ≡ slice_index octets 2
  pub label_count : rrsig.labels ≡ slice_index octets 3
  pub ttl : rrsig.original_ttl ≡ big_number 4 (drop 4 octets)
  pub expires : rrsig.expiration ≡ big_number 4 (drop 8 octets)
  pub incepts : rrsig.inception ≡ big_number 4 (drop 12 octets)
  pub tag : rrsig.key_tag ≡ big_number 2 (drop 16 octets)
  pub taken : ℕ
  pub name : Spells (drop FIXED_OCTETS octets) rrsig.signer taken
