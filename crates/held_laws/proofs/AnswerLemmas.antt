-- What is answered reads a state by its five look-ups alone.
use Rattle.std.proofs.Common.{◌≡◌, ℕ, ◌&&◌, ◌==◌, not, Bool, List, [], ◌∷◌, cond, Option, None, refl, ◌∙◌, ap}
use Rattle.std.specs.Option.{option_or, option_map, option_and_then}
use Rattle.dname.specs.Name.{Label, asterisk}
use Rattle.dname.specs.Tests.{is_under}
use Rattle.dname.specs.declared.types.TheConstants.{DS_TYPE, IN_CLASS}
use Rattle.denial_records.specs.Proof.{Proof}
use Rattle.denial_records.specs.declared.nsec_rec.NsecRec.{NsecRec}
use Rattle.denial_records.specs.declared.nsec3_rec.Nsec3Rec.{Nsec3Rec}
use Rattle.denial_records.specs.declared.record.Record.{Record}
use Rattle.denial_records.specs.declared.record.Record.TheVariants.{Nsec, Nsec3}
use Rattle.denial_records.specs.declared.verdict.Kind.{Kind}
use Rattle.denial_records.specs.declared.verdict.Kind.TheVariants.{NoData, NxDomain}
use Rattle.cache_meaning.specs.Held.{Held, Chain, NsecChain, Nsec3Chain, HashParameters}
use Rattle.cache_meaning.specs.Zones.{chains_of, first_of}
use Rattle.cache_meaning.specs.Evidence.{usable_set, nsec_for, nsec3_for}
use Rattle.cache_meaning.specs.NsecSteps as by_nsec
use Rattle.cache_meaning.specs.NsecSteps.{denial_by, answer_by, source_of, nsec_steps, nsec_proof, answer_by_wildcard}
use Rattle.cache_meaning.specs.Nsec3Steps as by_nsec3
use Rattle.cache_meaning.specs.Nsec3Steps.{denial_below, by_enclosers, nsec3_proof}
use Rattle.cache_meaning.specs.Prove.{chain_proof, zone_proof, proof_of, is_forwarded, outcome_of}
use Rattle.held_laws.specs.HeldLaws.{NoneDisplaces, IsReordered, SameLookups}
use Rattle.held_laws.proofs.SameLemmas.{same_zone, same_set, same_nsec, same_nsec3}

if_alike : (b : Bool) (x y : Option Proof) → x ≡ y → cond b x None ≡ cond b y None
if_alike b x y alike = ap (λ (o : Option Proof). cond b o None) alike

unless_alike : (b : Bool) (x y : Option Proof) → x ≡ y → cond b None x ≡ cond b None y
unless_alike b x y alike = ap (λ (o : Option Proof). cond b None o) alike

or_alike : (x x' y y' : Option Proof) → x ≡ x' → y ≡ y' → option_or x y ≡ option_or x' y'
or_alike x x' y y' one two = λ i. option_or (one i) (two i)

then_alike : {A : Type 0} (f g : A → Option Proof) (x y : Option A) → ((a : A) → f a ≡ g a) → x ≡ y → option_and_then f x ≡ option_and_then g y
then_alike f g x y each alike = λ i. option_and_then (λ a. each a i) (alike i)

first_alike : {A : Type 0} (f g : A → Option Proof) → ((a : A) → f a ≡ g a) → (xs : List A) → first_of f xs ≡ first_of g xs
first_alike f g each [] = refl
first_alike f g each (x ∷ xs) = or_alike (f x) (g x) _ _ (each x) (first_alike f g each xs)

module _ (held other : Held) (same : SameLookups held other) (now : ℕ) where
  set_alike : (zone owner : List Label) (rtype : ℕ) → usable_set held now zone owner rtype ≡ usable_set other now zone owner rtype
  set_alike zone owner rtype = simp same.set

  nsec_alike : (zone name : List Label) → nsec_for held now zone name ≡ nsec_for other now zone name
  nsec_alike zone name = simp same.nsec

  nsec3_alike : (zone : List Label) (parameters : HashParameters) (name : List Label) → nsec3_for held now zone parameters name ≡ nsec3_for other now zone parameters name
  nsec3_alike zone parameters name = simp same.nsec3

  denial_alike : (zone : List Label) (kind : Kind) (denials : List Record) → denial_by held now zone kind denials ≡ denial_by other now zone kind denials
  denial_alike zone kind denials = simp same.set

  wildcard_alike : (zone : List Label) (qtype : ℕ) (source : List Label) (denials : List Record) → answer_by_wildcard held now zone qtype source denials ≡ answer_by_wildcard other now zone qtype source denials
  wildcard_alike zone qtype source denials = unless_alike (qtype == DS_TYPE) _ _ (ap (option_map (λ set. answer_by set denials)) (set_alike zone source qtype))

  -- ---- NSEC

  source_alike : (zone : List Label) (qtype : ℕ) (source : List Label) (covering : NsecRec) → by_nsec.denial_at_source held now zone qtype source covering ≡ by_nsec.denial_at_source other now zone qtype source covering
  source_alike zone qtype source covering =
      then_alike _ _ _ _ (λ at_source. or_alike _ _ _ _ (if_alike _ _ _ (denial_alike zone NoData _)) (if_alike _ _ _ (denial_alike zone NxDomain _))) (nsec_alike zone source)

  cover_alike : (zone name : List Label) (qtype : ℕ) (covering : NsecRec) → by_nsec.by_cover held now zone name qtype covering ≡ by_nsec.by_cover other now zone name qtype covering
  cover_alike zone name qtype covering =
      if_alike _ _ _ (or_alike _ _ _ _ (wildcard_alike zone qtype (source_of covering name) (Nsec covering ∷ [])) (source_alike zone qtype (source_of covering name) covering))

  steps_alike : (zone name : List Label) (qtype : ℕ) (nsec : NsecRec) → nsec_steps held now zone name qtype nsec ≡ nsec_steps other now zone name qtype nsec
  steps_alike zone name qtype nsec =
      or_alike _ _ _ _ (if_alike _ _ _ (denial_alike zone NoData (Nsec nsec ∷ [])))
      (or_alike _ _ _ _ (if_alike _ _ _ (denial_alike zone NoData (Nsec nsec ∷ []))) (cover_alike zone name qtype nsec))

  nsec_proof_alike : (zone name : List Label) (qtype : ℕ) → nsec_proof held now zone name qtype ≡ nsec_proof other now zone name qtype
  nsec_proof_alike zone name qtype = then_alike _ _ _ _ (steps_alike zone name qtype) (nsec_alike zone name)

  -- ---- NSEC3

  module _ (zone : List Label) (parameters : HashParameters) (qtype : ℕ) where
    hashed_source_alike : (source : List Label) (matching covering : Nsec3Rec) → by_nsec3.denial_at_source held now zone parameters qtype source matching covering ≡ by_nsec3.denial_at_source other now zone parameters qtype source matching covering
    hashed_source_alike source matching covering =
        then_alike _ _ _ _ (λ at_source. or_alike _ _ _ _ (if_alike _ _ _ (denial_alike zone NoData _)) (if_alike _ _ _ (denial_alike zone NxDomain _)))
        (nsec3_alike zone parameters source)

    below_alike : (encloser : List Label) (covering : Nsec3Rec) → denial_below held now zone parameters qtype encloser covering ≡ denial_below other now zone parameters qtype encloser covering
    below_alike encloser covering =
        then_alike _ _ _ _ (λ matching. if_alike _ _ _ (hashed_source_alike (asterisk ∷ encloser) matching covering)) (nsec3_alike zone parameters encloser)

    hashed_cover_alike : (closer encloser : List Label) (covering : Nsec3Rec) → by_nsec3.by_cover held now zone parameters qtype closer encloser covering ≡ by_nsec3.by_cover other now zone parameters qtype closer encloser covering
    hashed_cover_alike closer encloser covering =
        if_alike _ _ _ (or_alike _ _ _ _ (wildcard_alike zone qtype (asterisk ∷ encloser) (Nsec3 covering ∷ [])) (below_alike encloser covering))

    enclosers_alike : (name : List Label) → by_enclosers held now zone parameters qtype name ≡ by_enclosers other now zone parameters qtype name
    enclosers_alike [] = refl
    enclosers_alike (label ∷ encloser) =
        if_alike (is_under encloser zone) _ _ (or_alike _ _ _ _
        (then_alike _ _ _ _ (hashed_cover_alike (label ∷ encloser) encloser) (nsec3_alike zone parameters (label ∷ encloser))) (enclosers_alike encloser))

    nsec3_proof_alike : (name : List Label) → nsec3_proof held now zone parameters name qtype ≡ nsec3_proof other now zone parameters name qtype
    nsec3_proof_alike name =
        or_alike _ _ _ _ (then_alike _ _ _ _ (λ matching. if_alike _ _ _ (denial_alike zone NoData (Nsec3 matching ∷ []))) (nsec3_alike zone parameters name)) (enclosers_alike name)

  -- ---- the zone

  chain_alike : (zone name : List Label) (qtype : ℕ) (chain : Chain) → chain_proof held now zone name qtype chain ≡ chain_proof other now zone name qtype chain
  chain_alike zone name qtype NsecChain = nsec_proof_alike zone name qtype
  chain_alike zone name qtype (Nsec3Chain parameters) = nsec3_proof_alike zone parameters qtype name

  zone_alike : (zone name : List Label) (qtype : ℕ) → zone_proof held now zone name qtype ≡ zone_proof other now zone name qtype
  zone_alike zone name qtype =
      or_alike _ _ _ _ (ap (option_map (λ set. answer_by set [])) (set_alike zone name qtype))
      (first_alike (chain_proof held now zone name qtype) (chain_proof other now zone name qtype) (chain_alike zone name qtype) (chains_of held zone)
      ∙ ap (first_of (chain_proof other now zone name qtype)) (same.chains zone))

  pub proof_alike : (name : List Label) (qtype : ℕ) → proof_of held now name qtype ≡ proof_of other now name qtype
  proof_alike name qtype = then_alike _ _ _ _ (λ zone. zone_alike zone name qtype) (same.zone name qtype)

  pub outcome_alike : (name : List Label) (qtype qclass : ℕ) → outcome_of held now name qtype qclass ≡ outcome_of other now name qtype qclass
  outcome_alike name qtype qclass = if_alike ((qclass == IN_CLASS) && not (is_forwarded qtype)) _ _ (proof_alike name qtype)

pub same_lookups : (held other : Held) → NoneDisplaces held.records → IsReordered held other → SameLookups held other
same_lookups held other apart order = record {
  zone = same_zone held other order;
  chains = order.chains;
  set = same_set held other apart order;
  nsec = same_nsec held other apart order;
  nsec3 = same_nsec3 held other apart order;
}
