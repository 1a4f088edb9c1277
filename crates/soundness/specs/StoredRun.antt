-- The records of the program's stored run, written out: an SOA and an NSEC from a.example to b.example, which came at
-- 1,000,000,000 seconds and live for an hour.
use Rattle.std.specs.Prelude.{ℕ, List, [], ◌∷◌, ◌++◌, Some, None}
use Rattle.byteorder.specs.Endian.{big_bytes}
use Rattle.dname.specs.Name.{wire_of}
use Rattle.dname.specs.declared.types.TheConstants.{A_TYPE, RRSIG_TYPE, NSEC_TYPE, SOA_TYPE}
use Rattle.denial_records.specs.Proof.{Proof}
use Rattle.denial_records.specs.declared.batch.Batch.{Batch}
use Rattle.denial_records.specs.declared.set_rec.SetRec.{SetRec}
use Rattle.denial_records.specs.declared.nsec_rec.NsecRec.{NsecRec}
use Rattle.denial_records.specs.declared.record.Record.TheVariants.{Set, Nsec}
use Rattle.denial_records.specs.declared.verdict.Kind.TheVariants.{NoData}
use Rattle.zone_meaning.specs.Examples.{example, a_example, b_example, soa_data}

-- algorithm 13, so many labels, an original TTL of an hour, from 900,000,000 to 2,000,000,000 seconds, key tag 1
abbrev pub signature_of : ℕ → ℕ → List ℕ
signature_of covered labels =
    big_bytes 2 covered
    ++ 13 ∷ labels ∷ (big_bytes 4 3600
    ++ big_bytes 4 2000000000
    ++ big_bytes 4 900000000
    ++ big_bytes 2 1
    ++ wire_of example
    ++ 0x5a ∷ 0x5a ∷ 0x5a ∷ 0x5a ∷ [])

abbrev pub stored_soa : SetRec
stored_soa = record {
  zone = example;
  owner = example;
  rtype = SOA_TYPE;
  life = 3600;
  expiry = 1000003600;
  items = soa_data ∷ [];
  signatures = signature_of SOA_TYPE 1 ∷ [];
}

abbrev pub stored_nsec : NsecRec
stored_nsec = record {
  zone = example;
  owner = a_example;
  next = b_example;
  types = A_TYPE ∷ RRSIG_TYPE ∷ NSEC_TYPE ∷ [];
  life = 3600;
  expiry = 1000003600;
  image = wire_of b_example ++ 0 ∷ 6 ∷ 0x40 ∷ 0 ∷ 0 ∷ 0 ∷ 0 ∷ 3 ∷ [];
  signatures = signature_of NSEC_TYPE 2 ∷ [];
}

abbrev pub stored_batch : Batch
stored_batch = record { now = 1000000000; records = Set stored_soa ∷ Nsec stored_nsec ∷ [] }

-- what they prove
abbrev pub stored_proof : Proof
stored_proof = record {
  kind = NoData;
  answer = None;
  soa = Some stored_soa;
  denials = Nsec stored_nsec ∷ [];
}
