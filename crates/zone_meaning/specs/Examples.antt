-- Zones written out, which the laws speak of.
use Rattle.std.specs.Prelude.{ℕ, List, [], ◌∷◌, length, codes}
use Rattle.dname.specs.Name.{Label, wire_of, asterisk}
use Rattle.dname.specs.declared.types.TheConstants.{A_TYPE, CNAME_TYPE, DNAME_TYPE, MX_TYPE, NSEC_TYPE, NS_TYPE, RRSIG_TYPE, SOA_TYPE, SRV_TYPE, TXT_TYPE}
use Rattle.zone_meaning.specs.Zone.{Zone, ZoneRecord}
use Rattle.zone_meaning.specs.Consistent.{SetPart, NsecPart}

abbrev pub record_of : List Label → ℕ → List ℕ → ZoneRecord
record_of owner rtype octets = record { owner = owner; rtype = rtype; octets = octets }

-- the name example, and the names below it
abbrev pub example : List Label
example = codes "example" ∷ []

abbrev pub a_example : List Label
a_example = codes "a" ∷ example

abbrev pub b_example : List Label
b_example = codes "b" ∷ example

abbrev pub t_example : List Label
t_example = codes "t" ∷ example

abbrev pub sub_example : List Label
sub_example = codes "sub" ∷ example

abbrev pub w_example : List Label
w_example = codes "w" ∷ example

abbrev pub star_w_example : List Label
star_w_example = asterisk ∷ w_example

-- an IPv4 address of the block for documents, 192.0.2.0/24
abbrev pub address : ℕ → List ℕ
address n = 192 ∷ 0 ∷ 2 ∷ n ∷ []

-- SOA data of 22 octets: the root for the server and the mailbox, serial 1, refresh 3600, retry 600, expire 86400, minimum 300
abbrev pub soa_data : List ℕ
soa_data = 0 ∷ 0 ∷ 0 ∷ 0 ∷ 0 ∷ 1 ∷ 0 ∷ 0 ∷ 0x0e ∷ 0x10 ∷ 0 ∷ 0 ∷ 0x02 ∷ 0x58 ∷ 0 ∷ 0x01 ∷ 0x51 ∷ 0x80 ∷ 0 ∷ 0 ∷ 0x01 ∷ 0x2c ∷ []

-- ---- a zone of two hosts

abbrev pub two_hosts : Zone
two_hosts = record {
  apex = example;
  records =
      record_of example SOA_TYPE soa_data
      ∷ record_of example NS_TYPE (wire_of a_example)
      ∷ record_of a_example A_TYPE (address 1)
      ∷ record_of b_example A_TYPE (address 2)
      ∷ [];
}

abbrev pub nsec_at_a : NsecPart
nsec_at_a = record { zone = example; owner = a_example; next = b_example; types = A_TYPE ∷ RRSIG_TYPE ∷ NSEC_TYPE ∷ [] }

abbrev pub soa_set : SetPart
soa_set = record { zone = example; owner = example; rtype = SOA_TYPE; items = soa_data ∷ [] }

-- ---- a zone with a cut, with glue at the cut and below it

abbrev pub one_cut : Zone
one_cut = record {
  apex = example;
  records =
      record_of example SOA_TYPE soa_data
      ∷ record_of example NS_TYPE (wire_of t_example)
      ∷ record_of sub_example NS_TYPE (wire_of sub_example)
      ∷ record_of sub_example NS_TYPE (wire_of (codes "ns" ∷ sub_example))
      ∷ record_of sub_example A_TYPE (address 1)
      ∷ record_of (codes "ns" ∷ sub_example) A_TYPE (address 2)
      ∷ record_of t_example A_TYPE (address 3)
      ∷ [];
}

abbrev pub nsec_at_cut : NsecPart
nsec_at_cut = record { zone = example; owner = sub_example; next = t_example; types = NS_TYPE ∷ RRSIG_TYPE ∷ NSEC_TYPE ∷ [] }

abbrev pub glue_at_cut : SetPart
glue_at_cut = record { zone = example; owner = sub_example; rtype = A_TYPE; items = address 1 ∷ [] }

abbrev pub glue_below_cut : SetPart
glue_below_cut = record { zone = example; owner = codes "ns" ∷ sub_example; rtype = A_TYPE; items = address 2 ∷ [] }

-- ---- the zone of RFC 4592 (section 2.2.1)

-- a character string: its length, then its octets (RFC 1035, section 3.3)
abbrev pub text : List ℕ → List ℕ
text octets = length octets ∷ octets

abbrev pub asterisk_example : List Label
asterisk_example = asterisk ∷ example

abbrev pub host1_example : List Label
host1_example = codes "host1" ∷ example

abbrev pub tcp_host1_example : List Label
tcp_host1_example = codes "_tcp" ∷ host1_example

abbrev pub subdel_example : List Label
subdel_example = codes "subdel" ∷ example

abbrev pub wildcard_text : List ℕ
wildcard_text = text (codes "this is a wildcard")

-- preference 10 and the host
abbrev pub wildcard_mx : List ℕ
wildcard_mx = 0 ∷ 10 ∷ wire_of host1_example

-- priority 0, weight 0, port 22 and the host
abbrev pub ssh_data : List ℕ
ssh_data = 0 ∷ 0 ∷ 0 ∷ 0 ∷ 0 ∷ 22 ∷ wire_of host1_example

abbrev pub wildcards : Zone
wildcards = record {
  apex = example;
  records =
      record_of example SOA_TYPE soa_data
      ∷ record_of example NS_TYPE (wire_of (codes "ns" ∷ codes "example" ∷ codes "com" ∷ []))
      ∷ record_of example NS_TYPE (wire_of (codes "ns" ∷ codes "example" ∷ codes "net" ∷ []))
      ∷ record_of asterisk_example TXT_TYPE wildcard_text
      ∷ record_of asterisk_example MX_TYPE wildcard_mx
      ∷ record_of (codes "sub" ∷ asterisk_example) TXT_TYPE (text (codes "this is not a wildcard"))
      ∷ record_of host1_example A_TYPE (address 1)
      ∷ record_of (codes "_ssh" ∷ tcp_host1_example) SRV_TYPE ssh_data
      ∷ record_of (codes "_ssh" ∷ codes "_tcp" ∷ codes "host2" ∷ example) SRV_TYPE ssh_data
      ∷ record_of subdel_example NS_TYPE (wire_of (codes "ns" ∷ codes "example" ∷ codes "com" ∷ []))
      ∷ record_of subdel_example NS_TYPE (wire_of (codes "ns" ∷ codes "example" ∷ codes "net" ∷ []))
      ∷ [];
}

-- one of the two records of a set
abbrev pub ns_set_cut_short : SetPart
ns_set_cut_short = record { zone = example; owner = example; rtype = NS_TYPE; items = wire_of (codes "ns" ∷ codes "example" ∷ codes "com" ∷ []) ∷ [] }

-- ---- a zone with a thing at every turn

abbrev pub alias_example : List Label
alias_example = codes "alias" ∷ example

abbrev pub moved_example : List Label
moved_example = codes "moved" ∷ example

-- a cut below a DNAME, which nothing reaches
abbrev pub low_moved_example : List Label
low_moved_example = codes "low" ∷ moved_example

-- a cut and a DNAME at one name
abbrev pub both_example : List Label
both_example = codes "both" ∷ example

-- a cut below that
abbrev pub low_both_example : List Label
low_both_example = codes "low" ∷ both_example

-- a wildcard with NS below it, and one with a DNAME and an address
abbrev pub cut_example : List Label
cut_example = codes "cut" ∷ example

abbrev pub dname_example : List Label
dname_example = codes "dname" ∷ example

abbrev pub turns : Zone
turns = record {
  apex = example;
  records =
      record_of example SOA_TYPE soa_data
      ∷ record_of example NS_TYPE (wire_of a_example)
      ∷ record_of a_example A_TYPE (address 1)
      ∷ record_of alias_example CNAME_TYPE (wire_of b_example)
      ∷ record_of alias_example CNAME_TYPE (wire_of a_example)
      ∷ record_of moved_example DNAME_TYPE (wire_of a_example)
      ∷ record_of low_moved_example NS_TYPE (wire_of a_example)
      ∷ record_of both_example NS_TYPE (wire_of a_example)
      ∷ record_of both_example DNAME_TYPE (wire_of a_example)
      ∷ record_of low_both_example NS_TYPE (wire_of a_example)
      ∷ record_of (asterisk ∷ cut_example) NS_TYPE (wire_of a_example)
      ∷ record_of (asterisk ∷ dname_example) DNAME_TYPE (wire_of a_example)
      ∷ record_of (asterisk ∷ dname_example) A_TYPE (address 2)
      ∷ [];
}

abbrev pub no_records : Zone
no_records = record { apex = example; records = [] }
