-- What a proof says, when each zone says so too, and that its records may be used.
use Rattle.std.specs.Prelude.{◌≡◌, ℕ, List, Option, Some, None, IsTrue}
use Rattle.std.specs.List.{All, Contains}
use Rattle.dname.specs.Name.{Label}
use Rattle.denial_records.specs.Proof.{Proof, used_in}
use Rattle.denial_records.specs.declared.set_rec.SetRec.{SetRec}
use Rattle.denial_records.specs.declared.record.Record.{Record}
use Rattle.denial_records.specs.declared.verdict.Kind.{Kind}
use Rattle.denial_records.specs.declared.verdict.Kind.TheVariants as kinds
use Rattle.zone_meaning.specs.Zone.{Zone, IsZone}
use Rattle.zone_meaning.specs.Lookup.{Looked, Answer, NoData, NxDomain, Undefined, LooksUp, IsZoneFor}
use Rattle.cache_meaning.specs.Held.{Held, is_usable}
use Rattle.soundness.specs.True.{IsTrueOf, IsClashFreeFor}

-- what the name and type look up to by the proof: its set's data, no data, or no name
abbrev pub said_with : Kind → Option SetRec → Looked
said_with kinds.Answer (Some set) = Answer set.items
said_with kinds.Answer None = Undefined
said_with kinds.NoData set = NoData
said_with kinds.NxDomain set = NxDomain

abbrev pub said_by : Proof → Looked
said_by proof = said_with proof.kind proof.answer

-- the records that the proof uses are true of the zone
pub record HasUsed (zone : Zone) (proof : Proof) : Type 0 where
  pub zone_is : IsZone zone
  pub each : All (IsTrueOf zone) (used_in proof)

-- Every zone of which the used records are true is the zone for the question, and looks the name and type up to what the
-- proof says; a denial by NSEC3 records says so where the zone's names don't clash by their hash.
pub record IsSound (name : List Label) (qtype : ℕ) (proof : Proof) : Type 0 where
  pub zone_for : (zone : Zone) → HasUsed zone proof → IsZoneFor zone name qtype
  pub answers :
      (zone : Zone) → HasUsed zone proof → proof.kind ≡ kinds.Answer
      → LooksUp zone name qtype (said_by proof)
  pub denies :
      (zone : Zone) → HasUsed zone proof → All (IsClashFreeFor zone name) (used_in proof)
      → LooksUp zone name qtype (said_by proof)

-- the record is held, and may be used at the moment
pub record IsUsable (held : Held) (now : ℕ) (item : Record) : Type 0 where
  pub there : Contains held.records item
  pub usable : IsTrue (is_usable now item)
