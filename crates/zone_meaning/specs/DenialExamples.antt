-- NSEC records of zones written out, which the laws of denial speak of.
use Rattle.std.specs.Prelude.{ℕ, List, [], ◌∷◌, codes}
use Rattle.dname.specs.Name.{Label, asterisk, wire_of}
use Rattle.dname.specs.declared.types.TheConstants.{A_TYPE, DNAME_TYPE, DS_TYPE, MX_TYPE, NSEC_TYPE, NS_TYPE, RRSIG_TYPE, SOA_TYPE, SRV_TYPE, TXT_TYPE, CNAME_TYPE}
use Rattle.zone_meaning.specs.Zone.{Zone}
use Rattle.zone_meaning.specs.Consistent.{SetPart, NsecPart}
use Rattle.zone_meaning.specs.Examples.{record_of, soa_data, example, a_example, address, wildcard_mx, asterisk_example, host1_example, tcp_host1_example, subdel_example, moved_example, sub_example, w_example, star_w_example, alias_example}

abbrev pub nsec_of : List Label → List Label → List ℕ → NsecPart
nsec_of owner next types = record { zone = example; owner = owner; next = next; types = types }

-- ---- the zone of RFC 4592

abbrev pub ssh1_example : List Label
ssh1_example = codes "_ssh" ∷ tcp_host1_example

abbrev pub ssh2_example : List Label
ssh2_example = codes "_ssh" ∷ codes "_tcp" ∷ codes "host2" ∷ example

abbrev pub nsec_at_wildcard : NsecPart
nsec_at_wildcard = nsec_of asterisk_example (codes "sub" ∷ asterisk_example) (MX_TYPE ∷ TXT_TYPE ∷ RRSIG_TYPE ∷ NSEC_TYPE ∷ [])

abbrev pub nsec_at_host1 : NsecPart
nsec_at_host1 = nsec_of host1_example ssh1_example (A_TYPE ∷ RRSIG_TYPE ∷ NSEC_TYPE ∷ [])

abbrev pub nsec_at_ssh1 : NsecPart
nsec_at_ssh1 = nsec_of ssh1_example ssh2_example (SRV_TYPE ∷ RRSIG_TYPE ∷ NSEC_TYPE ∷ [])

abbrev pub nsec_at_ssh2 : NsecPart
nsec_at_ssh2 = nsec_of ssh2_example subdel_example (SRV_TYPE ∷ RRSIG_TYPE ∷ NSEC_TYPE ∷ [])

abbrev pub wildcard_set : SetPart
wildcard_set = record { zone = example; owner = asterisk_example; rtype = MX_TYPE; items = wildcard_mx ∷ [] }

-- ---- a zone with a wildcard below w, and a name that sorts before it: the octet of ( is 40, that of * is 42

abbrev pub before_star_example : List Label
before_star_example = codes "(x" ∷ w_example

abbrev pub low_wildcard : Zone
low_wildcard = record { apex = example; records = record_of example SOA_TYPE soa_data ∷ record_of star_w_example A_TYPE (address 1) ∷ [] }

abbrev pub nsec_before_star : NsecPart
nsec_before_star = nsec_of example star_w_example (SOA_TYPE ∷ RRSIG_TYPE ∷ NSEC_TYPE ∷ [])

abbrev pub star_set : SetPart
star_set = record { zone = example; owner = star_w_example; rtype = A_TYPE; items = address 1 ∷ [] }

-- ---- a zone whose wildcard below v is an empty non-terminal

abbrev pub v_example : List Label
v_example = codes "v" ∷ example

abbrev pub a_star_v_example : List Label
a_star_v_example = codes "a" ∷ asterisk ∷ v_example

abbrev pub empty_wildcard : Zone
empty_wildcard = record { apex = example; records = record_of example SOA_TYPE soa_data ∷ record_of a_star_v_example A_TYPE (address 1) ∷ [] }

abbrev pub nsec_before_wildcard : NsecPart
nsec_before_wildcard = nsec_of example a_star_v_example (SOA_TYPE ∷ RRSIG_TYPE ∷ NSEC_TYPE ∷ [])

-- its arc goes over the end
abbrev pub nsec_after_wildcard : NsecPart
nsec_after_wildcard = nsec_of a_star_v_example example (A_TYPE ∷ RRSIG_TYPE ∷ NSEC_TYPE ∷ [])

-- ---- zones with an alias, at a name and at a wildcard

abbrev pub one_alias : Zone
one_alias = record { apex = example; records = record_of example SOA_TYPE soa_data ∷ record_of alias_example CNAME_TYPE (wire_of a_example) ∷ [] }

abbrev pub nsec_at_alias : NsecPart
nsec_at_alias = nsec_of alias_example example (CNAME_TYPE ∷ RRSIG_TYPE ∷ NSEC_TYPE ∷ [])

abbrev pub wildcard_alias : Zone
wildcard_alias = record { apex = example; records = record_of example SOA_TYPE soa_data ∷ record_of asterisk_example CNAME_TYPE (wire_of a_example) ∷ [] }

abbrev pub nsec_at_wildcard_alias : NsecPart
nsec_at_wildcard_alias = nsec_of asterisk_example example (CNAME_TYPE ∷ RRSIG_TYPE ∷ NSEC_TYPE ∷ [])

-- ---- zones in which a wildcard has NS and DS, or a DNAME

abbrev pub wildcard_cut : Zone
wildcard_cut = record {
  apex = example;
  records =
      record_of example SOA_TYPE soa_data
      ∷ record_of asterisk_example NS_TYPE (address 1)
      ∷ record_of asterisk_example DS_TYPE (address 2)
      ∷ [];
}

abbrev pub ds_set : SetPart
ds_set = record { zone = example; owner = asterisk_example; rtype = DS_TYPE; items = address 2 ∷ [] }

abbrev pub nsec_at_wildcard_cut : NsecPart
nsec_at_wildcard_cut = nsec_of asterisk_example example (NS_TYPE ∷ DS_TYPE ∷ RRSIG_TYPE ∷ NSEC_TYPE ∷ [])

abbrev pub wildcard_dname : Zone
wildcard_dname = record { apex = example; records = record_of example SOA_TYPE soa_data ∷ record_of asterisk_example DNAME_TYPE (address 1) ∷ [] }

abbrev pub nsec_at_wildcard_dname : NsecPart
nsec_at_wildcard_dname = nsec_of asterisk_example example (DNAME_TYPE ∷ RRSIG_TYPE ∷ NSEC_TYPE ∷ [])

-- ---- a zone with a DNAME

abbrev pub one_dname : Zone
one_dname = record { apex = example; records = record_of example SOA_TYPE soa_data ∷ record_of moved_example DNAME_TYPE (address 1) ∷ [] }

abbrev pub nsec_at_dname : NsecPart
nsec_at_dname = nsec_of moved_example example (DNAME_TYPE ∷ RRSIG_TYPE ∷ NSEC_TYPE ∷ [])

-- ---- a zone that hands on to another, with a DS, and that other zone

abbrev pub parent_zone : Zone
parent_zone = record {
  apex = example;
  records =
      record_of example SOA_TYPE soa_data
      ∷ record_of sub_example NS_TYPE (wire_of a_example)
      ∷ record_of sub_example DS_TYPE (address 1)
      ∷ [];
}

abbrev pub child_zone : Zone
child_zone = record { apex = sub_example; records = record_of sub_example SOA_TYPE soa_data ∷ record_of sub_example NS_TYPE (wire_of a_example) ∷ [] }

abbrev pub nsec_of_child : NsecPart
nsec_of_child = record { zone = sub_example; owner = sub_example; next = sub_example; types = NS_TYPE ∷ SOA_TYPE ∷ RRSIG_TYPE ∷ NSEC_TYPE ∷ [] }

-- ---- a zone with a wildcard and a host, and NSECs with an owner and a next owner that aren't there, as an online signer
-- makes them (RFC 4470, section 3)

abbrev pub one_wildcard : Zone
one_wildcard = record {
  apex = example;
  records = record_of example SOA_TYPE soa_data ∷ record_of a_example A_TYPE (address 1) ∷ record_of asterisk_example MX_TYPE wildcard_mx ∷ [];
}

abbrev pub nsec_at_host : NsecPart
nsec_at_host = nsec_of a_example example (A_TYPE ∷ RRSIG_TYPE ∷ NSEC_TYPE ∷ [])

abbrev pub y_example : List Label
y_example = codes "y" ∷ example

abbrev pub w_y_example : List Label
w_y_example = codes "w" ∷ y_example

abbrev pub x_y_example : List Label
x_y_example = codes "x" ∷ y_example

abbrev pub nsec_of_no_owner : NsecPart
nsec_of_no_owner = nsec_of w_y_example example (RRSIG_TYPE ∷ NSEC_TYPE ∷ [])

abbrev pub nsec_to_no_owner : NsecPart
nsec_to_no_owner = nsec_of a_example w_y_example (A_TYPE ∷ RRSIG_TYPE ∷ NSEC_TYPE ∷ [])
