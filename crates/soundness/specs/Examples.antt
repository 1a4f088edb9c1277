-- Records of zones written out, as a cache keeps them, and what they prove.
use Rattle.std.specs.Prelude.{◌≡◌, ℕ, List, [], ◌∷◌, map, Some, None, codes}
use Rattle.dname.specs.Name.{Label}
use Rattle.dname.specs.declared.types.TheConstants.{A_TYPE, IN_CLASS, NSEC_TYPE, RRSIG_TYPE, SOA_TYPE}
use Rattle.denial_records.specs.Proof.{Proof}
use Rattle.denial_records.specs.declared.batch.Batch.{Batch}
use Rattle.denial_records.specs.declared.set_rec.SetRec.{SetRec}
use Rattle.denial_records.specs.declared.nsec_rec.NsecRec.{NsecRec}
use Rattle.denial_records.specs.declared.record.Record.{Record}
use Rattle.denial_records.specs.declared.record.Record.TheVariants.{Set, Nsec}
use Rattle.denial_records.specs.declared.verdict.Kind.{Kind}
use Rattle.denial_records.specs.declared.verdict.Kind.TheVariants as kinds
use Rattle.zone_meaning.specs.Zone.{Zone}
use Rattle.zone_meaning.specs.Consistent.{SetPart, NsecPart}
use Rattle.zone_meaning.specs.Lookup.{LooksUp}
use Rattle.zone_meaning.specs.Examples.{record_of, soa_data, example, a_example, asterisk_example, address, soa_set}
use Rattle.zone_meaning.specs.DenialExamples.{nsec_of}
use Rattle.cache_meaning.specs.Held.{Held, NsecChain, held_of}
use Rattle.cache_meaning.specs.Prove.{outcome_of}
use Rattle.soundness.specs.Sound.{said_by, HasUsed}

-- ---- records that came at the moment 1000 and live for an hour; their signatures say nothing of a zone

abbrev pub kept_set : SetPart → SetRec
kept_set set = record {
  zone = set.zone;
  owner = set.owner;
  rtype = set.rtype;
  life = 3600;
  expiry = 4600;
  items = set.items;
  signatures = [];
}

abbrev pub kept_nsec : NsecPart → NsecRec
kept_nsec nsec = record {
  zone = nsec.zone;
  owner = nsec.owner;
  next = nsec.next;
  types = nsec.types;
  life = 3600;
  expiry = 4600;
  image = [];
  signatures = [];
}

abbrev pub came : List Record → Batch
came records = record { now = 1000; records = records }

-- a minute later the records prove this of the name and type in a zone of which they are true, and the zone says so too
pub record IsWorked (zone : Zone) (records : List Record) (name : List Label) (qtype : ℕ)
    (proof : Proof) : Type 0 where
  pub proves : outcome_of (held_of (came records ∷ [])) 1060 name qtype IN_CLASS ≡ Some proof
  pub used : HasUsed zone proof
  pub looked : LooksUp zone name qtype (said_by proof)

-- ---- proofs

abbrev pub soa : SetRec
soa = kept_set soa_set

abbrev pub denied : Kind → List NsecPart → Proof
denied kind nsecs = record {
  kind = kind;
  answer = None;
  soa = Some soa;
  denials = map (λ nsec. Nsec (kept_nsec nsec)) nsecs;
}

abbrev pub answered : SetPart → List NsecPart → Proof
answered set nsecs = record {
  kind = kinds.Answer;
  answer = Some (kept_set set);
  soa = None;
  denials = map (λ nsec. Nsec (kept_nsec nsec)) nsecs;
}

-- ---- what is held

abbrev pub nsecs_held : List NsecPart → List Record
nsecs_held nsecs = Set soa ∷ map (λ nsec. Nsec (kept_nsec nsec)) nsecs

abbrev pub a_set : SetPart
a_set = record { zone = example; owner = a_example; rtype = A_TYPE; items = address 1 ∷ [] }

-- ---- two NSEC records of one owner that contradict each other, which no batches leave held

abbrev pub z_example : List Label
z_example = codes "z" ∷ example

abbrev pub y_example : List Label
y_example = codes "y" ∷ example

abbrev pub one_host : Zone
one_host = record {
  apex = example;
  records = record_of example SOA_TYPE soa_data ∷ record_of z_example A_TYPE (address 1) ∷ [];
}

-- this one is true of it
abbrev pub nsec_to_host : NsecPart
nsec_to_host = nsec_of example z_example (SOA_TYPE ∷ RRSIG_TYPE ∷ NSEC_TYPE ∷ [])

-- and this one isn't: it says that the wildcard is an empty non-terminal
abbrev pub nsec_to_low_wildcard : NsecPart
nsec_to_low_wildcard =
    nsec_of example (codes "a" ∷ asterisk_example) (SOA_TYPE ∷ RRSIG_TYPE ∷ NSEC_TYPE ∷ [])

abbrev pub contradicting : Held
contradicting = record {
  records = nsecs_held (nsec_to_low_wildcard ∷ nsec_to_host ∷ []);
  chains = record { zone = example; chain = NsecChain } ∷ [];
}
