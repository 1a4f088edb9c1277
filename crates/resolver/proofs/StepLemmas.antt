-- A step from a name, in the zone for the question.
use Rattle.std.proofs.Common.{◌≡◌, ℕ, Bool, true, false, List, Option, None, Some, refl, sym, ◌∙◌, ap, subst}
use Rattle.std.specs.Prelude.{◌==◌, if◌then◌else◌, IfSome}
use Rattle.std.specs.Option.{option_or, option_map, option_and_then}
use Rattle.std.specs.Bool.{Decides}
use Rattle.std.proofs.lemmas.Bool.Decides.{same_from_decides, Decides-eqb}
use Rattle.std.proofs.lemmas.Option.{none-some}
use Rattle.dname.specs.Name.{Label, IsUnder}
use Rattle.dname.specs.NameData.{one_name_in}
use Rattle.dname.specs.Tests.{is_under}
use Rattle.dname.specs.declared.types.TheConstants.{CNAME_TYPE, DS_TYPE}
use Rattle.dname.proofs.UnderLemmas.{under_decides}
use Rattle.denial_records.specs.Proof.{Proof}
use Rattle.denial_records.specs.declared.set_rec.SetRec.{SetRec}
use Rattle.cache_meaning.specs.Held.{Held}
use Rattle.cache_meaning.specs.Zones.{HeldZone, zone_in, zone_for}
use Rattle.cache_meaning.specs.Prove.{zone_proof, proof_of}
use Rattle.resolver.specs.Target.{target_of}
use Rattle.resolver.specs.Dname.{Dname, dname_above, topmost_dname}
use Rattle.resolver.specs.Walk.{Step, Ends, Proved, alias_step, by_alias, dname_step, by_dname, step_of}
use Rattle.resolver.specs.Lent.{made_by, step_by, visit_of}
use Rattle.resolver.specs.declared.rule.Rule.{Rule}
use Rattle.resolver.specs.declared.step.Step.{Step as LentStep}
use Rattle.resolver.specs.declared.rule.Rule.TheVariants.{Aliases, Redirection, Both}
use Rattle.resolver.proofs.DnameLemmas.{topmost_below}

-- ---- the zone

apart_test : (n m : ℕ) → (n ≡ m → ⊥) → (n == m) ≡ false
apart_test n m apart = by (n == m) refl
  where
    by : (b : Bool) → (n == m) ≡ b → (n == m) ≡ false
    by true is = absurd (apart ((Decides-eqb n m).0 is))
    by false is = is

-- a zone that is found for the question is that of its own held state
pub zone_is : (held : Held) (name : List Label) (qtype : ℕ) (zone : HeldZone) → Some zone ≡ option_map (zone_in held) (zone_for held name qtype)
    → (zone.held ≡ held) × (zone_for zone.held name qtype ≡ Some zone.apex)
zone_is held name qtype zone is = by (zone_for held name qtype) refl is
  where
    by : (found : Option (List Label)) → zone_for held name qtype ≡ found → Some zone ≡ option_map (zone_in held) found → (zone.held ≡ held) × (zone_for zone.held name qtype ≡ Some zone.apex)
    by None found told = absurd (none-some zone (sym told))
    by (Some apex) found told =
        let same : zone ≡ zone_in held apex = cc in
        let of_held : zone.held ≡ held = ap (λ (z : HeldZone). z.held) same in
        let of_apex : zone.apex ≡ apex = ap (λ (z : HeldZone). z.apex) same in
        (of_held, ap (λ (h : Held). zone_for h name qtype) of_held ∙ found ∙ ap Some (sym of_apex))

pub no_zone : (held : Held) (found : Option (List Label)) → None ≡ option_map (zone_in held) found → found ≡ None
no_zone held None is = refl
no_zone held (Some apex) is = absurd (none-some (zone_in held apex) is)

-- ---- an alias

module _ (held : Held) (now qtype : ℕ) (name : List Label) where
  -- the zone is one for all types but DS
  one_zone : (qtype == DS_TYPE) ≡ false → zone_for held name CNAME_TYPE ≡ zone_for held name qtype
  one_zone apart = rw apart refl

  pub alias_in : (apex : List Label) (found : Option Proof) → (qtype ≡ DS_TYPE → ⊥) → zone_for held name qtype ≡ Some apex → zone_proof held now apex name CNAME_TYPE ≡ found
      → option_and_then alias_step found ≡ by_alias held now qtype name
  alias_in apex found apart asked is =
      let other : (qtype == DS_TYPE) ≡ false = apart_test qtype DS_TYPE apart in
      let proved : proof_of held now name CNAME_TYPE ≡ found =
      ap (option_and_then (λ zone. zone_proof held now zone name CNAME_TYPE)) (one_zone other ∙ asked) ∙ is in
      ap (option_and_then alias_step) (sym proved)
      ∙ ap (λ (b : Bool). if b then None else option_and_then alias_step (proof_of held now name CNAME_TYPE)) (sym other)

  -- ---- no zone, no step

  no_alias : zone_for held name qtype ≡ None → by_alias held now qtype name ≡ None
  no_alias none = by (qtype == DS_TYPE) refl
    where
      by : (b : Bool) → (qtype == DS_TYPE) ≡ b → (if b then None else option_and_then alias_step (proof_of held now name CNAME_TYPE)) ≡ None
      by true is = refl
      by false is = ap (λ (found : Option (List Label)). option_and_then alias_step (option_and_then (λ zone. zone_proof held now zone name CNAME_TYPE) found)) (one_zone is ∙ none)

  no_dname : zone_for held name qtype ≡ None → by_dname held now qtype name ≡ None
  no_dname none =
      ap (λ (found : Option (List Label)). option_map (λ (dname : Dname). dname_step qtype dname.set (target_of name dname.set.owner dname.suffix)) (option_and_then (λ zone. topmost_dname held now zone name) found)) none

  pub no_step : (rule : Rule) → zone_for held name qtype ≡ None → step_of rule held now qtype name ≡ None
  no_step Aliases none = ap (λ (step : Option Step). option_or step None) (no_alias none)
  no_step Redirection none = no_dname none
  no_step Both none = ap (λ (step : Option Step). option_or step (by_dname held now qtype name)) (no_alias none) ∙ no_dname none

  pub no_visit : (rule : Rule) → zone_for held name qtype ≡ None → visit_of rule held now qtype name ≡ None
  no_visit rule none =
      let proved : proof_of held now name qtype ≡ None = ap (option_and_then (λ zone. zone_proof held now zone name qtype)) none in
      ap (λ (found : Option Proof). option_or (option_map (λ proof. Ends (Proved proof)) found) (step_of rule held now qtype name)) proved ∙ no_step rule none

-- ---- a DNAME

pub under_if_some : (held : Held) (now : ℕ) (apex name : List Label) (found : Option Dname) → found ≡ topmost_dname held now apex name → IfSome found (λ (dname : Dname). IsUnder name dname.set.owner)
under_if_some held now apex name None is = tt
under_if_some held now apex name (Some dname) is = (topmost_below held now apex name dname (sym is)).0.0

pub suffix_if_some : (held : Held) (now : ℕ) (apex name : List Label) (found : Option Dname) → found ≡ topmost_dname held now apex name → IfSome found (λ (dname : Dname). one_name_in dname.set.items ≡ Some dname.suffix)
suffix_if_some held now apex name None is = tt
suffix_if_some held now apex name (Some dname) is = (topmost_below held now apex name dname (sym is)).1.suffix_is

-- the target is what the set makes of the name
pub made_above : (name : List Label) (dname : Dname) → IsUnder name dname.set.owner → one_name_in dname.set.items ≡ Some dname.suffix → target_of name dname.set.owner dname.suffix ≡ made_by name dname.set
made_above name dname above item =
    let under : is_under name dname.set.owner ≡ true = (under_decides name dname.set.owner).1 above in
    ap (λ (found : Option (List Label)). option_and_then (target_of name dname.set.owner) found) (sym item)
    ∙ ap (λ (b : Bool). if b then option_and_then (target_of name dname.set.owner) (one_name_in dname.set.items) else None) (sym under)

-- one test that a name is under another says what each says
under_is : (name owner lent of : List Label) (test : Bool) → lent ≡ name → of ≡ owner → Decides test (IsUnder lent of) → test ≡ is_under name owner
under_is name owner lent of test of_name of_owner decides =
    same_from_decides test (is_under name owner) (subst (λ n. Decides test (IsUnder n owner)) of_name (subst (λ o. Decides test (IsUnder lent o)) of_owner decides)) (under_decides name owner)

-- a set makes nothing of a name that isn't under its owner
pub not_made : (name lent of : List Label) (set : SetRec) (test : Bool) → lent ≡ name → of ≡ set.owner → Decides test (IsUnder lent of) → test ≡ false → None ≡ made_by name set
not_made name lent of set test of_name of_owner decides none =
    ap (λ (b : Bool). if b then option_and_then (target_of name set.owner) (one_name_in set.items) else None)
    (sym none ∙ under_is name set.owner lent of test of_name of_owner decides)

-- and of one that is, its target
pub made_under : (name lent of suffix : List Label) (set : SetRec) (test : Bool) → lent ≡ name → of ≡ set.owner → Decides test (IsUnder lent of) → test ≡ true → Some suffix ≡ one_name_in set.items
    → target_of name of suffix ≡ made_by name set
made_under name lent of suffix set test of_name of_owner decides some item =
    ap (λ owner. target_of name owner suffix) of_owner
    ∙ ap (option_and_then (target_of name set.owner)) item
    ∙ ap (λ (b : Bool). if b then option_and_then (target_of name set.owner) (one_name_in set.items) else None)
    (sym some ∙ under_is name set.owner lent of test of_name of_owner decides)

dname_in : (held : Held) (now qtype : ℕ) (apex name : List Label) (found : Option Dname) → zone_for held name qtype ≡ Some apex → found ≡ topmost_dname held now apex name
    → option_map (λ (dname : Dname). dname_step qtype dname.set (target_of name dname.set.owner dname.suffix)) found ≡ by_dname held now qtype name
dname_in held now qtype apex name found asked is =
    let above : found ≡ dname_above held now name qtype = is ∙ ap (option_and_then (λ zone. topmost_dname held now zone name)) (sym asked) in
    ap (option_map (λ (dname : Dname). dname_step qtype dname.set (target_of name dname.set.owner dname.suffix))) above

pub no_dname_in : (held : Held) (now qtype : ℕ) (apex name : List Label) → zone_for held name qtype ≡ Some apex → None ≡ topmost_dname held now apex name → None ≡ by_dname held now qtype name
no_dname_in held now qtype apex name asked is = dname_in held now qtype apex name None asked is

-- the step that is given is the one by the DNAME
pub stepped_by : (held : Held) (now qtype : ℕ) (apex name : List Label) (dname : Dname) (target : Option (List Label)) (step : LentStep) → zone_for held name qtype ≡ Some apex
    → Some dname ≡ topmost_dname held now apex name → IsUnder name dname.set.owner → one_name_in dname.set.items ≡ Some dname.suffix
    → target ≡ target_of name dname.set.owner dname.suffix
    → (target ≡ made_by name dname.set → step_by name step ≡ dname_step qtype dname.set target) → Some (step_by name step) ≡ by_dname held now qtype name
stepped_by held now qtype apex name dname target step asked top under item is told =
    ap Some (told (is ∙ made_above name dname under item) ∙ ap (dname_step qtype dname.set) is)
    ∙ dname_in held now qtype apex name (Some dname) asked top
