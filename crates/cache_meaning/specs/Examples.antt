-- Held records written out, for which proofs are computed.
use Rattle.std.specs.Prelude.{ℕ, Bool, false, List, [], ◌∷◌, codes, Option, Some, None}
use Rattle.dname.specs.Name.{Label, asterisk}
use Rattle.dname.specs.declared.types.TheConstants.{A_TYPE, NS_TYPE, SOA_TYPE, DNAME_TYPE, DS_TYPE, RRSIG_TYPE, NSEC_TYPE}
use Rattle.denial_records.specs.Proof.{Proof}
use Rattle.denial_records.specs.declared.set_rec.SetRec.{SetRec}
use Rattle.denial_records.specs.declared.nsec_rec.NsecRec.{NsecRec}
use Rattle.denial_records.specs.declared.nsec3_rec.Nsec3Rec.{Nsec3Rec}
use Rattle.denial_records.specs.declared.record.Record.{Record}
use Rattle.denial_records.specs.declared.record.Record.TheVariants.{Set, Nsec, Nsec3}
use Rattle.denial_records.specs.declared.verdict.Kind.TheVariants.{Answer, NoData, NxDomain}
use Rattle.cache_meaning.specs.Held.{Chain, NsecChain, Nsec3Chain, ZoneChain}
use Rattle.cache_meaning.specs.Prove.{proof_of}

-- ---- names

-- the zone that signs all records
abbrev pub example : List Label
example = codes "example" ∷ []

abbrev pub a_example : List Label
a_example = codes "a" ∷ example

abbrev pub b_example : List Label
b_example = codes "b" ∷ example

abbrev pub d_example : List Label
d_example = codes "d" ∷ example

abbrev pub f_example : List Label
f_example = codes "f" ∷ example

abbrev pub y_example : List Label
y_example = codes "y" ∷ example

abbrev pub z_example : List Label
z_example = codes "z" ∷ example

abbrev pub w_example : List Label
w_example = codes "w" ∷ example

-- the wildcard below a name, and a name below it
abbrev pub wildcard : List Label → List Label
wildcard name = asterisk ∷ name

abbrev pub below : List Label → List Label
below name = codes "x" ∷ name

-- a name whose first octet goes before the asterisk's
abbrev pub before_asterisk : List Label → List Label
before_asterisk name = codes "(x" ∷ name

-- ---- records

-- the moment that is asked of, and one at which all records have expired
abbrev pub then : ℕ
then = 1000

abbrev pub later : ℕ
later = 4600

abbrev pub set_at : List Label → ℕ → SetRec
set_at owner rtype = record {
  zone = example;
  owner = owner;
  rtype = rtype;
  life = 3600;
  expiry = 4600;
  items = [];
  signatures = [];
}

abbrev pub soa : SetRec
soa = set_at example SOA_TYPE

-- an NSEC record; its own types are always there
abbrev pub nsec_from : List Label → List Label → List ℕ → NsecRec
nsec_from owner next types = record {
  zone = example;
  owner = owner;
  next = next;
  types = RRSIG_TYPE ∷ NSEC_TYPE ∷ types;
  life = 3600;
  expiry = 4600;
  image = [];
  signatures = [];
}

-- from the apex, and from a name that has an address
abbrev pub apex_to : List Label → Record
apex_to next = Nsec (nsec_from example next (NS_TYPE ∷ SOA_TYPE ∷ []))

abbrev pub from_to : List Label → List Label → Record
from_to owner next = Nsec (nsec_from owner next (A_TYPE ∷ []))

-- from a zone cut, and from the owner of a DS and of a DNAME
abbrev pub cut_to : List Label → List Label → Record
cut_to owner next = Nsec (nsec_from owner next (NS_TYPE ∷ []))

abbrev pub ds_to : List Label → List Label → Record
ds_to owner next = Nsec (nsec_from owner next (DS_TYPE ∷ []))

abbrev pub dname_to : List Label → List Label → Record
dname_to owner next = Nsec (nsec_from owner next (DNAME_TYPE ∷ []))

-- an NSEC3 record without salt and with one round (RFC 9276, section 3.1)
abbrev pub nsec3_from : List ℕ → List ℕ → Bool → List ℕ → Nsec3Rec
nsec3_from hash next opt_out types = record {
  zone = example;
  hash = hash;
  next = next;
  salt = [];
  iterations = 0;
  opt_out = opt_out;
  types = types;
  life = 3600;
  expiry = 4600;
  image = [];
  signatures = [];
}

-- ---- the hashes of example and a.example, by Python's hashlib

abbrev pub example_hash : List ℕ
example_hash =
    29 ∷ 184 ∷ 239 ∷ 167 ∷ 220 ∷ 179 ∷ 72 ∷ 189 ∷ 167 ∷ 137
    ∷ 63 ∷ 202 ∷ 29 ∷ 139 ∷ 173 ∷ 253 ∷ 182 ∷ 153 ∷ 107 ∷ 1 ∷ []

abbrev pub a_hash : List ℕ
a_hash =
    51 ∷ 26 ∷ 81 ∷ 8 ∷ 73 ∷ 7 ∷ 236 ∷ 160 ∷ 95 ∷ 104
    ∷ 174 ∷ 188 ∷ 25 ∷ 127 ∷ 172 ∷ 195 ∷ 230 ∷ 146 ∷ 110 ∷ 10 ∷ []

-- from the apex to a.example, and back over the end of the ring; d.example and the apex's wildcard are in the second arc
abbrev pub hashed_apex : Record
hashed_apex = Nsec3 (nsec3_from example_hash a_hash false (NS_TYPE ∷ SOA_TYPE ∷ []))

abbrev pub hashed_a : Bool → Record
hashed_a opt_out = Nsec3 (nsec3_from a_hash example_hash opt_out (A_TYPE ∷ RRSIG_TYPE ∷ []))

-- ---- held states, and what they prove

abbrev pub chain_in_zone : Chain → ZoneChain
chain_in_zone chain = record { zone = example; chain = chain }

abbrev pub nsec_chain : ZoneChain
nsec_chain = chain_in_zone NsecChain

abbrev pub nsec3_chain : ZoneChain
nsec3_chain = chain_in_zone (Nsec3Chain (record { salt = []; iterations = 0 }))

-- by the SOA and these records
abbrev pub proved_by : List ZoneChain → List Record → List Label → ℕ → Option Proof
proved_by chains records name qtype =
    proof_of (record { records = Set soa ∷ records; chains = chains }) then name qtype

abbrev pub by_nsec : List Record → List Label → ℕ → Option Proof
by_nsec records name qtype = proved_by (nsec_chain ∷ []) records name qtype

abbrev pub by_nsec3 : List Record → List Label → ℕ → Option Proof
by_nsec3 records name qtype = proved_by (nsec3_chain ∷ []) records name qtype

abbrev pub answer : SetRec → List Record → Option Proof
answer set denials =
    Some (record { kind = Answer; answer = Some set; soa = None; denials = denials })

abbrev pub no_data : List Record → Option Proof
no_data denials =
    Some (record { kind = NoData; answer = None; soa = Some soa; denials = denials })

abbrev pub name_error : List Record → Option Proof
name_error denials =
    Some (record { kind = NxDomain; answer = None; soa = Some soa; denials = denials })
