-- What the records of a zone written out prove, the zone says too.
use Rattle.std.proofs.Common.{◌≡◌, ℕ, List, [], ◌∷◌, map, Some, refl}
use Rattle.std.specs.List.{All}
use Rattle.std.proofs.lemmas.List.Elements.{All-nil, All-cons, All-map}
use Rattle.facts.proofs.Lists.{all_one}
use Rattle.dname.specs.Name.{Label}
use Rattle.dname.specs.declared.types.TheConstants.{IN_CLASS}
use Rattle.denial_records.specs.Proof.{Proof}
use Rattle.denial_records.specs.declared.nsec3_rec.Nsec3Rec.{Nsec3Rec}
use Rattle.denial_records.specs.declared.record.Record.{Record}
use Rattle.denial_records.specs.declared.record.Record.TheVariants.{Set, Nsec, Nsec3}
use Rattle.denial_records.specs.declared.verdict.Kind.{Kind}
use Rattle.zone_meaning.specs.Zone.{Zone, IsZone}
use Rattle.zone_meaning.specs.Consistent.{SetPart, NsecPart, IsConsistentSet, IsConsistentNsec}
use Rattle.zone_meaning.specs.Lookup.{LooksUp}
use Rattle.cache_meaning.specs.Held.{held_of}
use Rattle.cache_meaning.specs.Prove.{outcome_of}
use Rattle.zone_meaning.specs.Examples.{soa_set}
use Rattle.soundness.specs.True.{IsTrueOf, IsClashFreeFor}
use Rattle.soundness.specs.Sound.{said_by, HasUsed, IsSound}
use Rattle.soundness.specs.Examples.{kept_set, kept_nsec, came, IsWorked, denied, answered}
use Rattle.soundness.specs.HashedExamples.{hashed_denied, hashed_answered}
use Rattle.soundness.proofs.QueryLemmas.{outcome_sound}

pub two_hold : {X : Type 0} (P : X → Type 0) (x y : X) → P x → P y → All P (x ∷ y ∷ [])
two_hold P x y is is' = All-cons P x (y ∷ []) is (all_one P y is')

abbrev pub Proves : List Record → List Label → ℕ → Proof → Type 0
Proves records name qtype proof = outcome_of (held_of (came records ∷ [])) 1060 name qtype IN_CLASS ≡ Some proof

abbrev kept : NsecPart → Record
kept nsec = Nsec (kept_nsec nsec)

each_true : (zone : Zone) (nsecs : List NsecPart) → All (IsConsistentNsec zone) nsecs → All (IsTrueOf zone) (map kept nsecs)
each_true zone nsecs = All-map (IsTrueOf zone) kept nsecs

no_clash : (zone : Zone) (name : List Label) (nsecs : List NsecPart) → All (IsClashFreeFor zone name) (map kept nsecs)
no_clash zone name [] = All-nil (IsClashFreeFor zone name)
no_clash zone name (nsec ∷ nsecs) = All-cons (IsClashFreeFor zone name) (kept nsec) (map kept nsecs) tt (no_clash zone name nsecs)

pub denial_used : (zone : Zone) (kind : Kind) (nsecs : List NsecPart) → IsZone zone → IsConsistentSet zone soa_set → All (IsConsistentNsec zone) nsecs → HasUsed zone (denied kind nsecs)
denial_used zone kind nsecs is_zone soa each = record { zone_is = is_zone; each = All-cons (IsTrueOf zone) (Set (kept_set soa_set)) (map kept nsecs) soa (each_true zone nsecs each) }

-- it says so where the denial is sound
pub denial_says : (zone : Zone) (name : List Label) (qtype : ℕ) (kind : Kind) (nsecs : List NsecPart) → HasUsed zone (denied kind nsecs) → IsSound name qtype (denied kind nsecs) → LooksUp zone name qtype (said_by (denied kind nsecs))
denial_says zone name qtype kind nsecs used sound = sound.denies zone used (All-cons (IsClashFreeFor zone name) (Set (kept_set soa_set)) (map kept nsecs) tt (no_clash zone name nsecs))

module _ (zone : Zone) (is_zone : IsZone zone) (records : List Record) (name : List Label) (qtype : ℕ) where
  pub worked_denial : (kind : Kind) (nsecs : List NsecPart) → IsConsistentSet zone soa_set → All (IsConsistentNsec zone) nsecs → Proves records name qtype (denied kind nsecs) → IsWorked zone records name qtype (denied kind nsecs)
  worked_denial kind nsecs soa each proves =
      let used = denial_used zone kind nsecs is_zone soa each in
      record {
        proves = proves;
        used = used;
        looked = denial_says zone name qtype kind nsecs used (outcome_sound (held_of (came records ∷ [])) 1060 name qtype IN_CLASS (denied kind nsecs) proves).sound;
      }

  pub worked_answer : (set : SetPart) (nsecs : List NsecPart) → IsConsistentSet zone set → All (IsConsistentNsec zone) nsecs → Proves records name qtype (answered set nsecs) → IsWorked zone records name qtype (answered set nsecs)
  worked_answer set nsecs true_set each proves = record {
    proves = proves;
    used = used;
    looked = (outcome_sound (held_of (came records ∷ [])) 1060 name qtype IN_CLASS (answered set nsecs) proves).sound.answers zone used refl;
  }
    where
      used : HasUsed zone (answered set nsecs)
      used = record { zone_is = is_zone; each = All-cons (IsTrueOf zone) (Set (kept_set set)) (map kept nsecs) true_set (each_true zone nsecs each) }

-- ---- NSEC3 records

module _ (zone : Zone) (is_zone : IsZone zone) (records : List Record) (name : List Label) (qtype : ℕ) where
  pub worked_hashed_denial : (kind : Kind) (nsec3s : List Nsec3Rec) → IsConsistentSet zone soa_set → All (IsTrueOf zone) (map Nsec3 nsec3s) → All (IsClashFreeFor zone name) (map Nsec3 nsec3s) → Proves records name qtype (hashed_denied kind nsec3s) → IsWorked zone records name qtype (hashed_denied kind nsec3s)
  worked_hashed_denial kind nsec3s soa each clash proves = record {
    proves = proves;
    used = used;
    looked = (outcome_sound (held_of (came records ∷ [])) 1060 name qtype IN_CLASS (hashed_denied kind nsec3s) proves).sound.denies zone used
        (All-cons (IsClashFreeFor zone name) (Set (kept_set soa_set)) (map Nsec3 nsec3s) tt clash);
  }
    where
      used : HasUsed zone (hashed_denied kind nsec3s)
      used = record { zone_is = is_zone; each = All-cons (IsTrueOf zone) (Set (kept_set soa_set)) (map Nsec3 nsec3s) soa each }

  pub worked_hashed_answer : (set : SetPart) (nsec3s : List Nsec3Rec) → IsConsistentSet zone set → All (IsTrueOf zone) (map Nsec3 nsec3s) → Proves records name qtype (hashed_answered set nsec3s) → IsWorked zone records name qtype (hashed_answered set nsec3s)
  worked_hashed_answer set nsec3s true_set each proves = record {
    proves = proves;
    used = used;
    looked = (outcome_sound (held_of (came records ∷ [])) 1060 name qtype IN_CLASS (hashed_answered set nsec3s) proves).sound.answers zone used refl;
  }
    where
      used : HasUsed zone (hashed_answered set nsec3s)
      used = record { zone_is = is_zone; each = All-cons (IsTrueOf zone) (Set (kept_set set)) (map Nsec3 nsec3s) true_set each }
