-- What type bit maps and sets that are true of a zone prove of it.
use Rattle.std.proofs.Common.{◌≡◌, ◌≢◌, ℕ, List, [], ◌∷◌, refl, sym, ◌∙◌, subst, arith, inl, inr, ⊎_elim}
use Rattle.std.specs.List.{Contains}
use Rattle.std.proofs.lemmas.List.Elements.{All-contains}
use Rattle.facts.proofs.Lists.{here}
use Rattle.dname.specs.Name.{Label, IsUnder, asterisk}
use Rattle.dname.specs.declared.types.TheConstants.{CNAME_TYPE, DNAME_TYPE, DS_TYPE, NS_TYPE}
use Rattle.zone_meaning.specs.Zone.{Zone, ZoneRecord, IsZone, IsCut, IsBar, IsLive, IsProofType, HasType, Exists}
use Rattle.zone_meaning.specs.Lookup.{LooksUp, Answer, NoData, AnswersAt, Synthesizes, as_itself, at_the_name}
use Rattle.zone_meaning.specs.Consistent.{NsecPart, SetPart, IsConsistentNsec, IsConsistentSet, TypesAgree}
use Rattle.zone_meaning.specs.Denial.{DeniesType, DeniesSynthesis, IsMatchWithoutType, IsSetAtSource}
use Rattle.zone_meaning.proofs.ZoneLemmas.{live_exists}
use Rattle.zone_meaning.proofs.BarLemmas.{unbarred_meets_nothing, exists_unbarred, longer_is_not_above}

-- ---- type bit maps

-- of a name that exists
pub no_data_by_types : (zone : Zone) (name apex : List Label) (types : List ℕ) (rtype : ℕ) → zone.apex ≡ apex → Exists zone name → TypesAgree zone name types → DeniesType types name apex rtype → LooksUp zone name rtype NoData
no_data_by_types zone name apex types rtype at there agree denies = record {
  within = there.within;
  found = at_the_name NoData (unbarred_meets_nothing zone name rtype (exists_unbarred zone name there) at_cut) there (
    λ has. denies.no_type ((agree rtype denies.ordinary (λ cut. inr (inl (at_cut cut)))).0 has),
    λ has. denies.no_cname ((agree CNAME_TYPE (λ out. omega arith) (λ _. inr (inr refl))).0 has),
  );
}
  where
    at_cut : IsCut zone name → rtype ≡ DS_TYPE
    at_cut cut = denies.side ((agree NS_TYPE (λ out. omega arith) (λ _. inl refl)).0 cut.1) (λ e. cut.0 (e ∙ sym at))

pub no_data_by_a_match : (zone : Zone) (nsec : NsecPart) (name : List Label) (rtype : ℕ) → IsZone zone → IsConsistentNsec zone nsec → IsMatchWithoutType nsec name rtype → LooksUp zone name rtype NoData
no_data_by_a_match zone nsec name rtype is true_nsec proof = no_data_by_types zone name nsec.zone nsec.types rtype true_nsec.apex
    (subst (Exists zone) proof.matches (live_exists zone is nsec.owner true_nsec.owner_live))
    (subst (λ n. TypesAgree zone n nsec.types) proof.matches true_nsec.types_agree)
    proof.denies

-- a name that they show to be no bar
pub no_bar_by_types : (zone : Zone) (name apex : List Label) (types : List ℕ) → zone.apex ≡ apex → TypesAgree zone name types → (Contains types DNAME_TYPE → ⊥) → (Contains types NS_TYPE → name ≡ apex) → IsBar zone name → ⊥
no_bar_by_types zone name apex types at agree no_dname no_ns is =
    ⊎_elim no_cut (λ dname. no_dname ((agree DNAME_TYPE (λ out. omega arith) (λ cut. absurd (no_cut cut))).0 dname)) is
  where
    no_cut : IsCut zone name → ⊥
    no_cut cut = cut.0 (no_ns ((agree NS_TYPE (λ out. omega arith) (λ _. inl refl)).0 cut.1) ∙ sym at)

-- of a source of synthesis that exists
pub made_by_types : (zone : Zone) (source : List Label) (types : List ℕ) (rtype : ℕ) → Exists zone source → TypesAgree zone source types → DeniesSynthesis types rtype → Synthesizes zone source rtype NoData
made_by_types zone source types rtype there agree denies = as_itself NoData there no_ns (
  λ has. denies.no_type ((agree rtype denies.ordinary no_cut).0 has),
  λ has. denies.no_cname ((agree CNAME_TYPE (λ out. omega arith) no_cut).0 has),
)
    (λ _ has. denies.no_dname ((agree DNAME_TYPE (λ out. omega arith) no_cut).0 has))
  where
    no_ns : HasType zone source NS_TYPE → ⊥
    no_ns has = denies.no_ns ((agree NS_TYPE (λ out. omega arith) (λ _. inl refl)).0 has)

    no_cut : {P : Type 0} → IsCut zone source → P
    no_cut cut = absurd (no_ns cut.1)

-- ---- sets

some_item : (items : List (List ℕ)) → items ≢ [] → (octets : List ℕ) × Contains items octets
some_item [] some = absurd (some refl)
some_item (octets ∷ items) some = (octets, here octets items)

set_answers : (zone : Zone) (set : SetPart) → IsConsistentSet zone set → AnswersAt zone set.owner set.rtype (Answer set.items)
set_answers zone set is =
    let item : (octets : List ℕ) × Contains set.items octets = some_item set.items is.not_empty in
    ((item.0, (is.data_there item.0).0 item.1), is.data_there)

pub answer_by_a_set : (zone : Zone) (set : SetPart) → IsZone zone → IsConsistentSet zone set → LooksUp zone set.owner set.rtype (Answer set.items)
answer_by_a_set zone set is true_set =
    let there : Exists zone set.owner = live_exists zone is set.owner true_set.live in
    record { within = there.within; found = at_the_name (Answer set.items) (unbarred_meets_nothing zone set.owner set.rtype true_set.live.unbarred true_set.authority) there (set_answers zone set true_set) }

-- an NS beside it would make its owner a cut, where a set of DS alone is true
pub made_by_set : (zone : Zone) (set : SetPart) (encloser : List Label) (rtype : ℕ) → IsConsistentSet zone set → IsUnder encloser zone.apex → IsSetAtSource set encloser rtype → Exists zone (asterisk ∷ encloser) → Synthesizes zone (asterisk ∷ encloser) rtype (Answer set.items)
made_by_set zone set encloser rtype true_set within proof there =
    subst (λ s. Synthesizes zone s rtype (Answer set.items)) proof.owner
    (subst (λ t. Synthesizes zone set.owner t (Answer set.items)) proof.of_type
    (as_itself (Answer set.items) (subst (Exists zone) (sym proof.owner) there)
    (λ ns. proof.not_ds (sym proof.of_type ∙ true_set.authority ((λ e. longer_is_not_above asterisk encloser zone.apex within (sym proof.owner ∙ e)), ns)))
    (set_answers zone set true_set)
    (λ e. cc)))

-- ---- types that prove others

no_proof_type : (zone : Zone) → IsZone zone → (name : List Label) (rtype : ℕ) → IsProofType rtype → HasType zone name rtype → ⊥
no_proof_type zone is name rtype proves has =
    let r : ZoneRecord = record { owner = name; rtype = rtype; octets = has.0 } in
    All-contains (λ (x : ZoneRecord). IsProofType x.rtype → ⊥) zone.records r is.types has.1 proves

pub proof_type_no_data : (zone : Zone) (name : List Label) (rtype : ℕ) → IsZone zone → IsLive zone name → (IsCut zone name → ⊥) → (HasType zone name CNAME_TYPE → ⊥) → IsProofType rtype → LooksUp zone name rtype NoData
proof_type_no_data zone name rtype is live no_cut no_cname proves =
    let there = live_exists zone is name live in
    record { within = there.within; found = at_the_name NoData (unbarred_meets_nothing zone name rtype live.unbarred (λ cut. absurd (no_cut cut))) there (no_proof_type zone is name rtype proves, no_cname) }
