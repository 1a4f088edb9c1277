-- The records of a message that belong together, and the signatures that cover them.
use Rattle.std.specs.Prelude.{ℕ, ◌+◌, ◌-◌, ◌%◌, ◌^◌, Bool, not, ◌&&◌, ◌==◌, nat_lt, List, drop, map, filter}
use Rattle.byteorder.specs.Endian.{big_number}
use Rattle.dname.specs.Name.{Label}
use Rattle.dname.specs.Tests.{same_name, same_octets, each_once}
use Rattle.dname.specs.declared.types.TheConstants.{RRSIG_TYPE, IN_CLASS}
use Rattle.dnswire.specs.declared.rr.Rr.{Rr}

-- the records of one owner name, class and type: the TTL of each, their data, each once, and the data of the RRSIG
-- records that cover them, each once; data is compared octet by octet, with its letters as they came
pub record Group : Type 0 where
  pub owner : List Label
  pub class : ℕ
  pub rtype : ℕ
  pub ttls : List ℕ
  pub items : List (List ℕ)
  pub signatures : List (List ℕ)

-- an RRset has one owner name, class and type (RFC 2181, section 5)
abbrev pub is_together : Rr → Rr → Bool
is_together rr other = same_name rr.owner other.owner && ((rr.class == other.class) && (rr.rtype == other.rtype))

-- RRSIG records form no RRset (RFC 4035, section 2.2)
abbrev pub is_rrsig : Rr → Bool
is_rrsig rr = rr.rtype == RRSIG_TYPE

-- ---- signatures (RFC 4034, section 3.1)

abbrev pub covered_type : Rr → ℕ
covered_type signature = big_number 2 signature.octets

abbrev pub expiration_of : Rr → ℕ
expiration_of signature = big_number 4 (drop 8 signature.octets)

-- the seconds until an expiration, by serial arithmetic (RFC 4034, section 3.1.5; RFC 1982)
abbrev pub seconds_to : ℕ → ℕ → ℕ
seconds_to expiration now = (expiration + 2 ^ 32 - now) % 2 ^ 32

-- the expiration is in the future
abbrev pub is_ahead : ℕ → Bool
is_ahead seconds = nat_lt 0 seconds && nat_lt seconds (2 ^ 31)

-- the other is an unexpired RRSIG record of class IN for the owner and type
abbrev pub covers : ℕ → Rr → Rr → Bool
covers now rr signature =
    is_rrsig signature
    && ((signature.class == IN_CLASS)
    && (same_name rr.owner signature.owner && ((rr.rtype == covered_type signature) && is_ahead (seconds_to (expiration_of signature) now))))

-- ---- groups

-- the group of a record
abbrev pub group_of : ℕ → List Rr → Rr → Group
group_of now rrs rr = record {
  owner = rr.owner;
  class = rr.class;
  rtype = rr.rtype;
  ttls = map (λ (x : Rr). x.ttl) (filter (is_together rr) rrs);
  items = each_once same_octets (map (λ (x : Rr). x.octets) (filter (is_together rr) rrs));
  signatures = each_once same_octets (map (λ (x : Rr). x.octets) (filter (covers now rr) rrs));
}

-- the groups of the records that are no RRSIG, in order of first appearance
abbrev pub groups_of : ℕ → List Rr → List Group
groups_of now rrs = map (group_of now rrs) (each_once is_together (filter (λ rr. not (is_rrsig rr)) rrs))
