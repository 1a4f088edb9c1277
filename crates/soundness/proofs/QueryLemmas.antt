-- What becomes of a query is sound.
use Rattle.std.proofs.Common.{◌≡◌, ◌≢◌, ℕ, Bool, true, false, List, [], ◌∷◌, drop, length, ◌≤◌, Some, refl, sym, ◌∙◌, subst, arith, ⊎_elim}
use Rattle.std.specs.Prelude.{not, ◌&&◌, ◌==◌, if◌then◌else◌}
use Rattle.std.specs.List.{All, find, list_any}
use Rattle.std.proofs.lemmas.Bool.{and_parts, false≢true}
use Rattle.std.proofs.lemmas.Bool.Decides.{Decides-eqb}
use Rattle.std.proofs.lemmas.Option.{none-some, option_and_then_some}
use Rattle.std.proofs.lemmas.List.Elements.{All-nil, All-cons, All-weaker}
use Rattle.dname.specs.Name.{Label, IsUnder}
use Rattle.dname.specs.Tests.{same_name}
use Rattle.dname.specs.declared.types.TheConstants.{DS_TYPE, IN_CLASS, RRSIG_TYPE, NSEC_TYPE, NSEC3_TYPE}
use Rattle.dname.proofs.UnderLemmas.{under_itself, under_longer, under_is_longer}
use Rattle.denial_records.specs.Proof.{Proof}
use Rattle.zone_meaning.specs.Zone.{IsProofType}
use Rattle.zone_meaning.specs.Lookup.{LooksUp, Answer}
use Rattle.zone_meaning.proofs.DenialLemmas.{answer_by_a_set}
use Rattle.cache_meaning.specs.Held.{Held, Chain, NsecChain, Nsec3Chain, zone_of}
use Rattle.cache_meaning.specs.Zones.{self_and_above, candidates, zone_for, chains_of, first_of}
use Rattle.cache_meaning.specs.Evidence.{usable_set}
use Rattle.cache_meaning.specs.NsecSteps.{answer_by}
use Rattle.cache_meaning.specs.Prove.{exact_proof, chain_proof, zone_proof, proof_of, is_forwarded, outcome_of}
use Rattle.soundness.specs.True.{set_part}
use Rattle.soundness.specs.Sound.{IsUsable}
use Rattle.soundness.specs.Steps.{IsAsked}
use Rattle.soundness.proofs.TestLemmas.{if_then, either_of, mapped, first_is, find_is, not_both}
use Rattle.soundness.proofs.FoundLemmas.{usable_set_found}
use Rattle.soundness.proofs.SoundLemmas.{IsProved, answer_is_sound}
use Rattle.soundness.proofs.NsecLemmas.{nsec_sound}
use Rattle.soundness.proofs.Nsec3Lemmas.{nsec3_sound}

-- ---- the zone for a question

all_above : (name : List Label) → All (IsUnder name) (self_and_above name)
all_above [] = All-cons (IsUnder []) [] [] (under_itself []) (All-nil (IsUnder []))
all_above (label ∷ rest) = All-cons (IsUnder (label ∷ rest)) (label ∷ rest) (self_and_above rest) (under_itself (label ∷ rest))
    (All-weaker (IsUnder rest) (IsUnder (label ∷ rest)) (λ above. under_longer label rest above) (self_and_above rest) (all_above rest))

above_alone : (test : List Label → Bool) (name apex : List Label) → find test (drop 1 (self_and_above name)) ≡ Some apex → IsUnder name apex × (name ≢ apex)
above_alone test [] apex is = absurd (none-some apex is)
above_alone test (label ∷ rest) apex is =
    let under = find_is (IsUnder rest) test (self_and_above rest) apex (all_above rest) is in
    (under_longer label rest apex under, λ same. longer (subst (IsUnder rest) (sym same) under))
  where
    longer : IsUnder rest (label ∷ rest) → ⊥
    longer under = let long : length (label ∷ rest) ≤ length rest = under_is_longer rest (label ∷ rest) under in omega (arith, long)

candidate_is : (test : List Label → Bool) (name apex : List Label) (qtype : ℕ) → find test (candidates name qtype) ≡ Some apex → IsUnder name apex × (qtype ≡ DS_TYPE → name ≢ apex)
candidate_is test name apex qtype is = by (qtype == DS_TYPE) refl is
  where
    by : (b : Bool) → (qtype == DS_TYPE) ≡ b → find test (if b then drop 1 (self_and_above name) else self_and_above name) ≡ Some apex → IsUnder name apex × (qtype ≡ DS_TYPE → name ≢ apex)
    by true ds is = let alone = above_alone test name apex is in (alone.0, λ _. alone.1)
    by false other is = (
      find_is (IsUnder name) test (self_and_above name) apex (all_above name) is,
      λ ds. absurd (false≢true (sym other ∙ (Decides-eqb qtype DS_TYPE).1 ds)),
    )

pub asked_of : (held : Held) (name apex : List Label) (qtype : ℕ) → (IsProofType qtype → ⊥) → zone_for held name qtype ≡ Some apex → IsAsked apex name qtype
asked_of held name apex qtype ordinary is =
    let candidate = candidate_is (λ zone. list_any (λ item. same_name (zone_of item) zone) held.records) name apex qtype is in
    record { above = candidate.0; of_ds = candidate.1; ordinary = ordinary }

-- ---- in that zone

pub exact_sound : (held : Held) (now : ℕ) (apex name : List Label) (qtype : ℕ) (proof : Proof) → IsAsked apex name qtype → exact_proof held now apex name qtype ≡ Some proof → IsProved held now name qtype proof
exact_sound held now apex name qtype proof asked is =
    let made = mapped (λ set. answer_by set []) (usable_set held now apex name qtype) proof is in
    let found = usable_set_found held now apex name qtype made.0 made.1 in
    subst (IsProved held now name qtype) made.2
    (answer_is_sound held now apex name qtype made.0 [] asked found.0.of_zone found.1 (All-nil (IsUsable held now))
    (λ zone at is_zone true_set uses. subst (λ t. LooksUp zone name t (Answer made.0.items)) found.0.of_type
    (subst (λ owner. LooksUp zone owner made.0.rtype (Answer made.0.items)) found.0.of_owner (answer_by_a_set zone (set_part made.0) is_zone true_set))))

chain_sound : (held : Held) (now : ℕ) (apex name : List Label) (qtype : ℕ) (proof : Proof) (chain : Chain) → IsAsked apex name qtype → chain_proof held now apex name qtype chain ≡ Some proof → IsProved held now name qtype proof
chain_sound held now apex name qtype proof NsecChain asked is = nsec_sound held now apex name qtype asked proof is
chain_sound held now apex name qtype proof (Nsec3Chain parameters) asked is = nsec3_sound held now apex parameters name qtype asked proof is

zone_sound : (held : Held) (now : ℕ) (apex name : List Label) (qtype : ℕ) (proof : Proof) → IsAsked apex name qtype → zone_proof held now apex name qtype ≡ Some proof → IsProved held now name qtype proof
zone_sound held now apex name qtype proof asked is = ⊎_elim
    (exact_sound held now apex name qtype proof asked)
    (λ of_chains. let chain = first_is (chain_proof held now apex name qtype) (chains_of held apex) proof of_chains in chain_sound held now apex name qtype proof chain.0 asked chain.2)
    (either_of (exact_proof held now apex name qtype) (first_of (chain_proof held now apex name qtype) (chains_of held apex)) proof is)

-- ---- a query

forwards_proofs : (qtype : ℕ) → IsProofType qtype → is_forwarded qtype ≡ true
forwards_proofs qtype = ⊎_elim
    (λ (rrsig : qtype ≡ RRSIG_TYPE). subst (λ t. is_forwarded t ≡ true) (sym rrsig) refl)
    (λ others. ⊎_elim
    (λ (nsec : qtype ≡ NSEC_TYPE). subst (λ t. is_forwarded t ≡ true) (sym nsec) refl)
    (λ (nsec3 : qtype ≡ NSEC3_TYPE). subst (λ t. is_forwarded t ≡ true) (sym nsec3) refl)
    others)

pub outcome_sound : (held : Held) (now : ℕ) (name : List Label) (qtype qclass : ℕ) (proof : Proof) → outcome_of held now name qtype qclass ≡ Some proof → IsProved held now name qtype proof
outcome_sound held now name qtype qclass proof is =
    let taken = if_then ((qclass == IN_CLASS) && not (is_forwarded qtype)) (proof_of held now name qtype) proof is in
    let plain = and_parts (qclass == IN_CLASS) (not (is_forwarded qtype)) taken.0 in
    option_and_then_some (λ zone. zone_proof held now zone name qtype) (zone_for held name qtype) proof taken.1
    (λ apex found says. zone_sound held now apex name qtype proof (asked_of held name apex qtype (λ proves. not_both (is_forwarded qtype) plain.1 (forwards_proofs qtype proves)) found) says)
