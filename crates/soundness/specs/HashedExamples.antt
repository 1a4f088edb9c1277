-- A zone whose denials are hashed, with the hashes of RFC 5155 (section 5) by SHA-1, with no salt and no iterations.
use Rattle.std.specs.Prelude.{ℕ, Bool, true, false, List, [], ◌∷◌, Some, None, map, codes}
use Rattle.dname.specs.Name.{Label}
use Rattle.dname.specs.declared.types.TheConstants.{A_TYPE, RRSIG_TYPE, SOA_TYPE}
use Rattle.denial_records.specs.Proof.{Proof}
use Rattle.denial_records.specs.declared.nsec3_rec.Nsec3Rec.{Nsec3Rec}
use Rattle.denial_records.specs.declared.record.Record.{Record}
use Rattle.denial_records.specs.declared.record.Record.TheVariants.{Set, Nsec3}
use Rattle.denial_records.specs.declared.verdict.Kind.{Kind}
use Rattle.denial_records.specs.declared.verdict.Kind.TheVariants as kinds
use Rattle.zone_meaning.specs.Zone.{Zone}
use Rattle.zone_meaning.specs.Consistent.{SetPart}
use Rattle.zone_meaning.specs.Examples.{record_of, soa_data, example, a_example, w_example, star_w_example, address}
use Rattle.soundness.specs.Examples.{soa, kept_set}

-- names that the zone doesn't have
abbrev pub c_example : List Label
c_example = codes "c" ∷ example

abbrev pub x_w_example : List Label
x_w_example = codes "x" ∷ w_example

-- a host, and a wildcard below an empty non-terminal
abbrev pub hashed_zone : Zone
hashed_zone = record {
  apex = example;
  records =
      record_of example SOA_TYPE soa_data
      ∷ record_of a_example A_TYPE (address 1)
      ∷ record_of star_w_example A_TYPE (address 2)
      ∷ [];
}

-- ---- the hashes of its names

abbrev pub hash_of_example : List ℕ
hash_of_example =
    0x1d ∷ 0xb8 ∷ 0xef ∷ 0xa7 ∷ 0xdc ∷ 0xb3 ∷ 0x48 ∷ 0xbd ∷ 0xa7 ∷ 0x89
    ∷ 0x3f ∷ 0xca ∷ 0x1d ∷ 0x8b ∷ 0xad ∷ 0xfd ∷ 0xb6 ∷ 0x99 ∷ 0x6b ∷ 0x01 ∷ []

abbrev pub hash_of_a_example : List ℕ
hash_of_a_example =
    0x33 ∷ 0x1a ∷ 0x51 ∷ 0x08 ∷ 0x49 ∷ 0x07 ∷ 0xec ∷ 0xa0 ∷ 0x5f ∷ 0x68
    ∷ 0xae ∷ 0xbc ∷ 0x19 ∷ 0x7f ∷ 0xac ∷ 0xc3 ∷ 0xe6 ∷ 0x92 ∷ 0x6e ∷ 0x0a ∷ []

abbrev pub hash_of_w_example : List ℕ
hash_of_w_example =
    0xeb ∷ 0xc9 ∷ 0xf1 ∷ 0x4d ∷ 0x7f ∷ 0x79 ∷ 0x65 ∷ 0xa1 ∷ 0x21 ∷ 0x71
    ∷ 0x76 ∷ 0x3a ∷ 0x31 ∷ 0x38 ∷ 0xb7 ∷ 0xe4 ∷ 0x44 ∷ 0xd5 ∷ 0xe1 ∷ 0xe3 ∷ []

abbrev pub hash_of_star_w_example : List ℕ
hash_of_star_w_example =
    0xca ∷ 0x6e ∷ 0x5c ∷ 0xf5 ∷ 0xdf ∷ 0x9f ∷ 0x27 ∷ 0x8e ∷ 0x53 ∷ 0x65
    ∷ 0xf1 ∷ 0x41 ∷ 0xf6 ∷ 0x1c ∷ 0xf0 ∷ 0xca ∷ 0x56 ∷ 0xde ∷ 0x32 ∷ 0x88 ∷ []

-- ---- its NSEC3 records, in the order of their hashes

abbrev pub nsec3_from : List ℕ → List ℕ → Bool → List ℕ → Nsec3Rec
nsec3_from hash next opt_out types = record {
  zone = example;
  hash = hash;
  next = next;
  salt = [];
  iterations = 0;
  opt_out = opt_out;
  types = types;
  life = 3600;
  expiry = 4600;
  image = [];
  signatures = [];
}

abbrev pub at_example : Nsec3Rec
at_example = nsec3_from hash_of_example hash_of_a_example false (SOA_TYPE ∷ RRSIG_TYPE ∷ [])

abbrev pub at_a : Nsec3Rec
at_a = nsec3_from hash_of_a_example hash_of_star_w_example false (A_TYPE ∷ RRSIG_TYPE ∷ [])

abbrev pub at_star_w : Nsec3Rec
at_star_w = nsec3_from hash_of_star_w_example hash_of_w_example false (A_TYPE ∷ RRSIG_TYPE ∷ [])

-- an empty non-terminal has no types
abbrev pub at_w : Nsec3Rec
at_w = nsec3_from hash_of_w_example hash_of_example false []

-- the host's, with Opt-Out
abbrev pub opted_out_at_a : Nsec3Rec
opted_out_at_a = nsec3_from hash_of_a_example hash_of_star_w_example true (A_TYPE ∷ RRSIG_TYPE ∷ [])

-- ---- proofs, and what is held

abbrev pub hashed_denied : Kind → List Nsec3Rec → Proof
hashed_denied kind nsec3s = record {
  kind = kind;
  answer = None;
  soa = Some soa;
  denials = map Nsec3 nsec3s;
}

abbrev pub star_w_set : SetPart
star_w_set = record {
  zone = example;
  owner = star_w_example;
  rtype = A_TYPE;
  items = address 2 ∷ [];
}

abbrev pub hashed_answered : SetPart → List Nsec3Rec → Proof
hashed_answered set nsec3s = record {
  kind = kinds.Answer;
  answer = Some (kept_set set);
  soa = None;
  denials = map Nsec3 nsec3s;
}

abbrev pub hashed_held : List Record
hashed_held =
    Set soa ∷ Set (kept_set star_w_set) ∷ map Nsec3 (at_example ∷ at_a ∷ at_star_w ∷ at_w ∷ [])
