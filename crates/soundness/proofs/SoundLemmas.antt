-- When an answer and a denial are sound, with records that may be used.
use Rattle.std.proofs.Common.{◌≡◌, ◌≢◌, ℕ, List, Option, None, Some, sym, ◌∙◌, subst}
use Rattle.std.specs.Prelude.{IfSome}
use Rattle.std.specs.List.{All}
use Rattle.std.proofs.lemmas.List.Elements.{All-cons, All-head, All-tail}
use Rattle.dname.specs.Name.{Label, IsUnder}
use Rattle.dname.specs.declared.types.TheConstants.{SOA_TYPE}
use Rattle.denial_records.specs.Proof.{Proof, used_in}
use Rattle.denial_records.specs.declared.set_rec.SetRec.{SetRec}
use Rattle.denial_records.specs.declared.record.Record.{Record}
use Rattle.denial_records.specs.declared.record.Record.TheVariants.{Set}
use Rattle.denial_records.specs.declared.verdict.Kind.{Kind}
use Rattle.denial_records.specs.declared.verdict.Kind.TheVariants as kinds
use Rattle.zone_meaning.specs.Zone.{Zone, IsZone}
use Rattle.zone_meaning.specs.Consistent.{IsConsistentSet}
use Rattle.zone_meaning.specs.Lookup.{Answer, LooksUp, IsZoneFor}
use Rattle.cache_meaning.specs.Held.{Held}
use Rattle.cache_meaning.specs.Evidence.{usable_soa}
use Rattle.cache_meaning.specs.NsecSteps.{answer_by, denial_by}
use Rattle.soundness.specs.True.{set_part, IsTrueOf, IsClashFreeFor}
use Rattle.soundness.specs.Sound.{said_with, HasUsed, IsSound, IsUsable}
use Rattle.soundness.specs.Steps.{IsAsked}
use Rattle.soundness.proofs.TestLemmas.{mapped}
use Rattle.soundness.proofs.FoundLemmas.{usable_set_found}

zone_is_for : (zone : Zone) (apex name : List Label) (qtype : ℕ) → zone.apex ≡ apex → IsAsked apex name qtype → IsZoneFor zone name qtype
zone_is_for zone apex name qtype at asked = record {
  above = subst (IsUnder name) (sym at) asked.above;
  of_ds = λ ds same. asked.of_ds ds (same ∙ at);
}

-- the proof is sound, and its records are held and may be used
pub record IsProved (held : Held) (now : ℕ) (name : List Label) (qtype : ℕ) (proof : Proof) : Type 0 where
  pub sound : IsSound name qtype proof
  pub usable : All (IsUsable held now) (used_in proof)

pub answer_is_sound : (held : Held) (now : ℕ) (apex name : List Label) (qtype : ℕ) (set : SetRec) (denials : List Record) → IsAsked apex name qtype → set.zone ≡ apex → IsUsable held now (Set set) → All (IsUsable held now) denials
    → ((zone : Zone) → zone.apex ≡ apex → IsZone zone → IsConsistentSet zone (set_part set) → All (IsTrueOf zone) denials → LooksUp zone name qtype (Answer set.items))
    → IsProved held now name qtype (answer_by set denials)
answer_is_sound held now apex name qtype set denials asked of_zone usable others looks = record {
  sound = record {
    zone_for = λ zone used. zone_is_for zone apex name qtype (at zone used) asked;
    answers = λ zone used _. by zone used;
    denies = λ zone used _. by zone used;
  };
  usable = All-cons (IsUsable held now) (Set set) denials usable others;
}
  where
    the_set : (zone : Zone) → HasUsed zone (answer_by set denials) → IsConsistentSet zone (set_part set)
    the_set zone used = All-head (IsTrueOf zone) (Set set) denials used.each

    at : (zone : Zone) → HasUsed zone (answer_by set denials) → zone.apex ≡ apex
    at zone used = (the_set zone used).apex ∙ of_zone

    by : (zone : Zone) → HasUsed zone (answer_by set denials) → LooksUp zone name qtype (Answer set.items)
    by zone used = looks zone (at zone used) used.zone_is (the_set zone used) (All-tail (IsTrueOf zone) (Set set) denials used.each)

abbrev denied_by_soa : Kind → List Record → SetRec → Proof
denied_by_soa kind denials soa = record { kind = kind; answer = None; soa = Some soa; denials = denials }

pub denial_is_sound : (held : Held) (now : ℕ) (apex name : List Label) (qtype : ℕ) (kind : Kind) (denials : List Record) (proof : Proof) → IsAsked apex name qtype → kind ≢ kinds.Answer → denial_by held now apex kind denials ≡ Some proof → All (IsUsable held now) denials
    → ((zone : Zone) → zone.apex ≡ apex → IsZone zone → All (IsTrueOf zone) denials → All (IsClashFreeFor zone name) denials → LooksUp zone name qtype (said_with kind None))
    → IsProved held now name qtype proof
denial_is_sound held now apex name qtype kind denials proof asked denies is usable looks =
    let found = mapped (denied_by_soa kind denials) (usable_soa held now apex) proof is in
    let soa = usable_set_found held now apex apex SOA_TYPE found.0 found.1 in
    subst (IsProved held now name qtype) found.2 (record { sound = by found.0 soa.0.of_zone; usable = All-cons (IsUsable held now) (Set found.0) denials soa.1 usable })
  where
    by : (soa : SetRec) → soa.zone ≡ apex → IsSound name qtype (denied_by_soa kind denials soa)
    by soa of_zone = record {
      zone_for = λ zone used. zone_is_for zone apex name qtype (at zone used) asked;
      answers = λ zone used is. absurd (denies is);
      denies = λ zone used clash. looks zone (at zone used) used.zone_is
          (All-tail (IsTrueOf zone) (Set soa) denials used.each)
          (All-tail (IsClashFreeFor zone name) (Set soa) denials clash);
    }
      where
        at : (zone : Zone) → HasUsed zone (denied_by_soa kind denials soa) → zone.apex ≡ apex
        at zone used =
            let true_soa : IsConsistentSet zone (set_part soa) = All-head (IsTrueOf zone) (Set soa) denials used.each in
            true_soa.apex ∙ of_zone

-- what is concluded of each proof holds of the one that is given
pub of_proof : (P : Proof → Type 0) (given found : Option Proof) → given ≡ found → ((it : Proof) → found ≡ Some it → P it) → IfSome given P
of_proof P None found same each = tt
of_proof P (Some it) found same each = each it (sym same)
