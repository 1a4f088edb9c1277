-- NSEC3 records of zones written out, by a hash that is looked up in a list, which the laws of denial speak of.
use Rattle.std.specs.Prelude.{ℕ, true, false, nat_eq, if◌then◌else◌, List, [], ◌∷◌, codes}
use Rattle.std.specs.Cmp.Lexicographic.{pointwise}
use Rattle.dname.specs.Name.{Label, asterisk, wire_of}
use Rattle.dname.specs.declared.types.TheConstants.{A_TYPE, DNAME_TYPE, DS_TYPE, MX_TYPE, NS_TYPE, RRSIG_TYPE, SOA_TYPE, CNAME_TYPE}
use Rattle.zone_meaning.specs.Zone.{Zone}
use Rattle.zone_meaning.specs.Consistent.{SetPart}
use Rattle.zone_meaning.specs.Hashed.{Nsec3Part}
use Rattle.zone_meaning.specs.Examples.{record_of, soa_data, example, a_example, address, wildcard_mx, asterisk_example, w_example, star_w_example, alias_example}

-- a name and its hash
pub record HashedName : Type 0 where
  pub name : List Label
  pub digest : List ℕ

abbrev pub hash_in : List HashedName → List Label → List ℕ
hash_in [] name = []
hash_in (hashed ∷ rest) name = if pointwise (pointwise nat_eq) hashed.name name then hashed.digest else hash_in rest name

abbrev pub hashed_as : List Label → List ℕ → HashedName
hashed_as name digest = record { name = name; digest = digest }

abbrev pub x_w_example : List Label
x_w_example = codes "x" ∷ w_example

abbrev pub y_w_example : List Label
y_w_example = codes "y" ∷ w_example

abbrev pub c_example : List Label
c_example = codes "c" ∷ example

abbrev pub ns1_example : List Label
ns1_example = codes "ns1" ∷ example

abbrev pub xx_example : List Label
xx_example = codes "xx" ∷ example

-- the first four digits of the hashes of RFC 5155 (appendix A), and of those that names not in it would have there; since
-- base32hex keeps the order of hashes, they order as the hashes do
abbrev pub digits : List Label → List ℕ
digits = hash_in (hashed_as example (codes "0p9m")
    ∷ hashed_as a_example (codes "35mt")
    ∷ hashed_as ns1_example (codes "2t7b")
    ∷ hashed_as c_example (codes "4g6p")
    ∷ hashed_as w_example (codes "k8ud")
    ∷ hashed_as star_w_example (codes "r53b")
    ∷ hashed_as x_w_example (codes "b4um")
    ∷ hashed_as y_w_example (codes "ji6n")
    ∷ hashed_as (codes "x" ∷ y_w_example) (codes "2vpt")
    ∷ hashed_as xx_example (codes "t644")
    ∷ hashed_as (codes "a" ∷ codes "c" ∷ x_w_example) (codes "06pj")
    ∷ hashed_as (codes "c" ∷ x_w_example) (codes "0va5")
    ∷ hashed_as (asterisk ∷ x_w_example) (codes "92pq")
    ∷ hashed_as (codes "z" ∷ w_example) (codes "qlu7")
    ∷ hashed_as (codes "a" ∷ codes "z" ∷ w_example) (codes "mhgs")
    ∷ hashed_as asterisk_example (codes "jhsv")
    ∷ hashed_as (codes "x" ∷ a_example) (codes "57f4")
    ∷ hashed_as (asterisk ∷ a_example) (codes "75lq")
    ∷ hashed_as (codes "mc" ∷ c_example) (codes "s71c")
    ∷ hashed_as alias_example (codes "vbem")
    ∷ [])

abbrev pub nsec3_of : List ℕ → List ℕ → List ℕ → Nsec3Part
nsec3_of owner next types = record { zone = example; hash = digits; owner = owner; next = next; opt_out = false; types = types }

-- ---- a part of the zone of RFC 5155 (appendix A), with its empty non-terminals w and y.w

abbrev pub hashed_zone : Zone
hashed_zone = record {
  apex = example;
  records =
      record_of example SOA_TYPE soa_data
      ∷ record_of example NS_TYPE (wire_of ns1_example)
      ∷ record_of a_example NS_TYPE (wire_of (codes "ns1" ∷ a_example))
      ∷ record_of a_example DS_TYPE (address 9)
      ∷ record_of (codes "ns1" ∷ a_example) A_TYPE (address 5)
      ∷ record_of ns1_example A_TYPE (address 1)
      ∷ record_of star_w_example MX_TYPE wildcard_mx
      ∷ record_of x_w_example MX_TYPE wildcard_mx
      ∷ record_of (codes "x" ∷ y_w_example) MX_TYPE wildcard_mx
      ∷ record_of xx_example A_TYPE (address 2)
      ∷ [];
}

abbrev pub nsec3_at_apex : Nsec3Part
nsec3_at_apex = nsec3_of (codes "0p9m") (codes "2t7b") (SOA_TYPE ∷ NS_TYPE ∷ RRSIG_TYPE ∷ [])

abbrev pub nsec3_at_ns1 : Nsec3Part
nsec3_at_ns1 = nsec3_of (codes "2t7b") (codes "2vpt") (A_TYPE ∷ RRSIG_TYPE ∷ [])

abbrev pub nsec3_at_a : Nsec3Part
nsec3_at_a = nsec3_of (codes "35mt") (codes "b4um") (NS_TYPE ∷ DS_TYPE ∷ RRSIG_TYPE ∷ [])

abbrev pub nsec3_at_x_w : Nsec3Part
nsec3_at_x_w = nsec3_of (codes "b4um") (codes "ji6n") (MX_TYPE ∷ RRSIG_TYPE ∷ [])

-- an empty non-terminal has an NSEC3 without types
abbrev pub nsec3_at_y_w : Nsec3Part
nsec3_at_y_w = nsec3_of (codes "ji6n") (codes "k8ud") []

abbrev pub nsec3_at_w : Nsec3Part
nsec3_at_w = nsec3_of (codes "k8ud") (codes "r53b") []

abbrev pub nsec3_at_star : Nsec3Part
nsec3_at_star = nsec3_of (codes "r53b") (codes "t644") (MX_TYPE ∷ RRSIG_TYPE ∷ [])

-- its arc goes over the end
abbrev pub nsec3_at_xx : Nsec3Part
nsec3_at_xx = nsec3_of (codes "t644") (codes "0p9m") (A_TYPE ∷ RRSIG_TYPE ∷ [])

abbrev pub star_mx_set : SetPart
star_mx_set = record { zone = example; owner = star_w_example; rtype = MX_TYPE; items = wildcard_mx ∷ [] }

-- ---- the same with the unsigned cut c, which an arc with Opt-Out leaves out

abbrev pub opt_out_zone : Zone
opt_out_zone = record {
  apex = example;
  records =
      record_of example SOA_TYPE soa_data
      ∷ record_of a_example A_TYPE (address 1)
      ∷ record_of c_example NS_TYPE (wire_of (codes "ns1" ∷ c_example))
      ∷ record_of x_w_example MX_TYPE wildcard_mx
      ∷ [];
}

abbrev pub nsec3_opting_out : Nsec3Part
nsec3_opting_out = record { zone = example; hash = digits; owner = codes "35mt"; next = codes "b4um"; opt_out = true; types = A_TYPE ∷ RRSIG_TYPE ∷ [] }

abbrev pub opt_out_apex : Nsec3Part
opt_out_apex = nsec3_of (codes "0p9m") (codes "35mt") (SOA_TYPE ∷ RRSIG_TYPE ∷ [])

abbrev pub opt_out_x_w : Nsec3Part
opt_out_x_w = nsec3_of (codes "b4um") (codes "k8ud") (MX_TYPE ∷ RRSIG_TYPE ∷ [])

-- of the same zone, an NSEC3 of the cut
abbrev pub nsec3_at_c : Nsec3Part
nsec3_at_c = nsec3_of (codes "4g6p") (codes "b4um") (NS_TYPE ∷ [])

-- ---- NSEC3s of the zones with an alias, at a name and at a wildcard

abbrev pub nsec3_at_alias : Nsec3Part
nsec3_at_alias = nsec3_of (codes "vbem") (codes "0p9m") (CNAME_TYPE ∷ RRSIG_TYPE ∷ [])

abbrev pub nsec3_at_wildcard_alias : Nsec3Part
nsec3_at_wildcard_alias = nsec3_of (codes "jhsv") (codes "0p9m") (CNAME_TYPE ∷ RRSIG_TYPE ∷ [])

-- ---- a zone with a DNAME, and NSEC3s of the zones whose wildcard has NS and DS, or a DNAME

abbrev pub hashed_dname : Zone
hashed_dname = record { apex = example; records = record_of example SOA_TYPE soa_data ∷ record_of a_example DNAME_TYPE (address 1) ∷ [] }

abbrev pub nsec3_at_dname : Nsec3Part
nsec3_at_dname = nsec3_of (codes "35mt") (codes "0p9m") (DNAME_TYPE ∷ RRSIG_TYPE ∷ [])

abbrev pub nsec3_at_wildcard_cut : Nsec3Part
nsec3_at_wildcard_cut = nsec3_of (codes "jhsv") (codes "0p9m") (NS_TYPE ∷ DS_TYPE ∷ RRSIG_TYPE ∷ [])

abbrev pub nsec3_at_wildcard_dname : Nsec3Part
nsec3_at_wildcard_dname = nsec3_of (codes "jhsv") (codes "0p9m") (DNAME_TYPE ∷ RRSIG_TYPE ∷ [])

-- ---- a hash that tells nothing apart

abbrev pub one_hash : List Label → List ℕ
one_hash name = []

abbrev pub nsec3_of_all : Nsec3Part
nsec3_of_all = record { zone = example; hash = one_hash; owner = []; next = []; opt_out = false; types = A_TYPE ∷ RRSIG_TYPE ∷ [] }

-- a hash that tells one name alone from the others, and an NSEC3 of the others
abbrev pub two_hashes : List Label → List ℕ
two_hashes = hash_in (hashed_as xx_example (codes "xx") ∷ [])

abbrev pub nsec3_of_most : Nsec3Part
nsec3_of_most = record { zone = example; hash = two_hashes; owner = []; next = []; opt_out = false; types = A_TYPE ∷ RRSIG_TYPE ∷ [] }

-- the same of three names, in a zone with a wildcard
abbrev pub three_hashes : List Label → List ℕ
three_hashes = hash_in (hashed_as (codes "q" ∷ xx_example) (codes "q") ∷ hashed_as (asterisk ∷ xx_example) (codes "s") ∷ [])

abbrev pub nsec3_of_others : Nsec3Part
nsec3_of_others = record { zone = example; hash = three_hashes; owner = []; next = []; opt_out = false; types = A_TYPE ∷ RRSIG_TYPE ∷ [] }

-- ---- a zone of one name, and the NSEC3 that is its whole chain, by any hash

abbrev pub one_name : Zone
one_name = record { apex = example; records = record_of example SOA_TYPE soa_data ∷ [] }

abbrev pub nsec3_alone : (List Label → List ℕ) → Nsec3Part
nsec3_alone hash = record { zone = example; hash = hash; owner = hash example; next = hash example; opt_out = false; types = SOA_TYPE ∷ RRSIG_TYPE ∷ [] }
