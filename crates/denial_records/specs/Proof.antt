-- A proof by kept records of what a zone answers to a name and a type (RFC 8198, section 5), and the verdict that shows it.
use Rattle.std.specs.Prelude.{◌≡◌, ◌≤◌, List, ◌++◌, length, Option, slice_get}
use Rattle.std.specs.Option.{option_map, option_copied, option_to_list}
use Rattle.denial_records.specs.declared.set_rec.SetRec.{SetRec}
use Rattle.denial_records.specs.declared.record.Record.{Record}
use Rattle.denial_records.specs.declared.record.Record.TheVariants.{Set, Nsec, Nsec3}
use Rattle.denial_records.specs.declared.verdict.Kind.{Kind}
use Rattle.denial_records.specs.declared.verdict.Denial.{Denial}
use Rattle.denial_records.specs.declared.verdict.Denial.TheVariants as denials
use Rattle.denial_records.specs.declared.verdict.Verdict.{Verdict}

-- what is answered, and the records that prove it: the set that answers, or the zone's SOA, and the denial records in order,
-- each once
pub record Proof : Type 0 where
  pub kind : Kind
  pub answer : Option SetRec
  pub soa : Option SetRec
  pub denials : List Record

-- all records that a proof uses
abbrev pub used_in : Proof → List Record
used_in proof = option_to_list (option_map Set proof.answer) ++ (option_to_list (option_map Set proof.soa) ++ proof.denials)

-- the record that a verdict lends
abbrev pub denied_by : Denial → Record
denied_by (denials.Nsec nsec) = Nsec nsec.now
denied_by (denials.Nsec3 nsec3) = Nsec3 nsec3.now

-- the verdict shows the proof: its denials are the proof's first, second and third
pub record Shows (verdict : Verdict) (proof : Proof) : Type 0 where
  pub kind : verdict.kind ≡ proof.kind
  pub answer : option_copied verdict.answer_set ≡ proof.answer
  pub soa : option_copied verdict.soa ≡ proof.soa
  pub first : option_map denied_by verdict.first ≡ slice_get proof.denials 0
  pub second : option_map denied_by verdict.second ≡ slice_get proof.denials 1
  pub third : option_map denied_by verdict.third ≡ slice_get proof.denials 2
  pub few : length proof.denials ≤ 3
