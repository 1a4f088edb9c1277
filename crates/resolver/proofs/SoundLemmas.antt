-- Each walk is sound, since each answer is.
use Rattle.std.proofs.Common.{◌≡◌, ◌≢◌, ℕ, zero, suc, Bool, true, false, List, [], ◌∷◌, Option, Some, None, refl, sym, ◌∙◌, ap, subst, ⊎_elim, length}
use Rattle.std.specs.Prelude.{not, ◌==◌, if◌then◌else◌}
use Rattle.std.specs.Option.{option_map, option_or, option_and_then}
use Rattle.std.proofs.lemmas.Bool.{and_parts, false≢true}
use Rattle.std.proofs.lemmas.Bool.Decides.{Decides-eqb}
use Rattle.std.proofs.lemmas.Option.{none-some, same_Some, option_and_then_some}
use Rattle.dname.specs.Name.{Label}
use Rattle.dname.specs.Read.{Spells}
use Rattle.dname.specs.declared.types.TheConstants.{CNAME_TYPE, DS_TYPE, IN_CLASS}
use Rattle.dname.proofs.NameDataLemmas.{one_item}
use Rattle.denial_records.specs.Proof.{Proof}
use Rattle.denial_records.specs.declared.set_rec.SetRec.{SetRec}
use Rattle.denial_records.specs.declared.verdict.Kind.{Kind}
use Rattle.denial_records.specs.declared.verdict.Kind.TheVariants as kinds
use Rattle.zone_meaning.specs.Lookup.{Answer, LooksUp}
use Rattle.cache_meaning.specs.Held.{Held}
use Rattle.cache_meaning.specs.Zones.{zone_for}
use Rattle.cache_meaning.specs.Prove.{proof_of, is_forwarded, outcome_of}
use Rattle.soundness.specs.Sound.{IsSound, said_with}
use Rattle.resolver.specs.Target.{target_of}
use Rattle.resolver.specs.Dname.{Dname, topmost_dname, dname_above}
use Rattle.resolver.specs.Walk.{ByAlias, ByDname, Proved, Made, Walk, Step, Onto, Ends, ending, behind, alias_target, alias_step, by_alias, dname_step, by_dname, step_of, takes_aliases, takes_redirections, links_of, proved_at, taken, beyond, walk_of, asks_a_zone, walk_for}
use Rattle.resolver.specs.SoundWalk.{IsSoundAlias, IsSoundRedirection, IsSoundWay, IsSoundEnd, IsSoundWalk}
use Rattle.resolver.specs.declared.rule.Rule.{Rule}
use Rattle.resolver.proofs.AliasLemmas.{leads_on}
use Rattle.resolver.proofs.ChoiceLemmas.{if_then, if_else, either_of, mapped}
use Rattle.resolver.proofs.DnameLemmas.{redirection_sound}

-- each answer is sound, whatever is held
abbrev pub EachIsSound : Type 0
EachIsSound =
    (held : Held) (now : ℕ) (name : List Label) (qtype qclass : ℕ) (proof : Proof) → outcome_of held now name qtype qclass ≡ Some proof → IsSound name qtype proof

-- ---- a step

abbrev pub IsSoundStep : ℕ → List Label → Step → Type 0
IsSoundStep qtype name (Onto way target) = IsSoundWay qtype name way target
IsSoundStep qtype name (Ends end) = IsSoundEnd qtype name end

-- an answer that leads on is one record, which is read whole
record Leads (kind : Kind) (answer : Option SetRec) (target : List Label) : Type 0 where
  octets : List ℕ
  answers : kind ≡ kinds.Answer
  says : said_with kind answer ≡ Answer (octets ∷ [])
  reads : Spells octets target (length octets)

led : (kind : Kind) (answer : Option SetRec) (target : List Label) → alias_target kind answer ≡ Some target → Leads kind answer target
led kinds.Answer None target is = absurd (none-some target is)
led kinds.Answer (Some set) target is =
    let one = one_item set.items target is in record { octets = one.0; answers = refl; says = ap Answer one.1; reads = one.2 }
led kinds.NoData answer target is = absurd (none-some target is)
led kinds.NxDomain answer target is = absurd (none-some target is)

sound_alias : (qtype : ℕ) (name : List Label) (proof : Proof) (target : List Label) → qtype ≢ CNAME_TYPE → IsSound name CNAME_TYPE proof → alias_target proof.kind proof.answer ≡ Some target → IsSoundAlias qtype name proof target
sound_alias qtype name proof target other sound is =
    let lead = led proof.kind proof.answer target is in
    record {
      octets = lead.octets;
      reads = lead.reads;
      answers = λ zone used. subst (LooksUp zone name CNAME_TYPE) lead.says (sound.answers zone used lead.answers);
      leads = λ zone used alone. leads_on zone name qtype lead.octets other alone (subst (LooksUp zone name CNAME_TYPE) lead.says (sound.answers zone used lead.answers));
    }

step_by_dname : (qtype : ℕ) (name : List Label) (set : SetRec) (target : Option (List Label)) → IsSoundRedirection qtype name set target → IsSoundStep qtype name (dname_step qtype set target)
step_by_dname qtype name set None sound = sound
step_by_dname qtype name set (Some target) sound = by (qtype == CNAME_TYPE) refl
  where
    by : (b : Bool) → (qtype == CNAME_TYPE) ≡ b → IsSoundStep qtype name (if b then Ends (Made set target) else Onto (ByDname set target) target)
    by true same = ((Decides-eqb qtype CNAME_TYPE).0 same, sound)
    by false other = (sound, refl)

-- ---- what comes behind a step

-- a step and a rest that is sound
took : (qtype : ℕ) (name : List Label) (rest : List Label → Option Walk) (walk : Walk) → ((target : List Label) (more : Walk) → rest target ≡ Some more → IsSoundWalk qtype target more)
    → (step : Step) → IsSoundStep qtype name step → taken rest name step ≡ Some walk → IsSoundWalk qtype name walk
took qtype name rest walk deeper (Onto way target) sound is =
    let more = mapped (behind (record { owner = name; way = way } ∷ [])) (rest target) walk is in
    subst (IsSoundWalk qtype name) more.2 (refl, (target, sound, deeper target more.0 more.1))
took qtype name rest walk deeper (Ends end) sound is =
    subst (IsSoundWalk qtype name) (same_Some (ending name end) walk is) (refl, sound)

module _ (each : EachIsSound) (rule : Rule) (held : Held) (now qtype : ℕ) (ordinary : is_forwarded qtype ≡ false) where
  proved : (name : List Label) (proof : Proof) → proof_of held now name qtype ≡ Some proof → IsSound name qtype proof
  proved name proof is = each held now name qtype IN_CLASS proof (rw ordinary is)

  step_by_alias : (name : List Label) (step : Step) → proof_of held now name qtype ≡ None → by_alias held now qtype name ≡ Some step → IsSoundStep qtype name step
  step_by_alias name step none is =
      option_and_then_some alias_step (proof_of held now name CNAME_TYPE) step (if_else (qtype == DS_TYPE) (option_and_then alias_step (proof_of held now name CNAME_TYPE)) step is).1
      (λ proof found made.
      let onto = mapped (Onto (ByAlias proof)) (alias_target proof.kind proof.answer) step made in
      subst (IsSoundStep qtype name) onto.2
      (sound_alias qtype name proof onto.0 (λ same. none-some proof (sym none ∙ ap (λ t. proof_of held now name t) same ∙ found)) (each held now name CNAME_TYPE IN_CLASS proof found) onto.1))

  by_dname_sound : (name : List Label) (step : Step) → by_dname held now qtype name ≡ Some step → IsSoundStep qtype name step
  by_dname_sound name step is =
      let made = mapped (λ (dname : Dname). dname_step qtype dname.set (target_of name dname.set.owner dname.suffix)) (dname_above held now name qtype) step is in
      subst (IsSoundStep qtype name) made.2
      (step_by_dname qtype name made.0.set (target_of name made.0.set.owner made.0.suffix)
      (option_and_then_some (λ zone. topmost_dname held now zone name) (zone_for held name qtype) made.0 made.1
      (λ zone found top. redirection_sound held now qtype zone name made.0 top)))

  step_sound : (name : List Label) (step : Step) → proof_of held now name qtype ≡ None → step_of rule held now qtype name ≡ Some step → IsSoundStep qtype name step
  step_sound name step none is = ⊎_elim
      (λ alias. step_by_alias name step none (if_then (takes_aliases rule) (by_alias held now qtype name) step alias).1)
      (λ dname. by_dname_sound name step (if_then (takes_redirections rule) (by_dname held now qtype name) step dname).1)
      (either_of (if takes_aliases rule then by_alias held now qtype name else None) (if takes_redirections rule then by_dname held now qtype name else None) step is)

  -- a proof, or else what goes on from a name of which nothing is proved
  proof_or : (name : List Label) (rest : Option Walk) (walk : Walk) → (proof_of held now name qtype ≡ None → (more : Walk) → rest ≡ Some more → IsSoundWalk qtype name more)
      → option_or (proved_at held now qtype name) rest ≡ Some walk → IsSoundWalk qtype name walk
  proof_or name rest walk deeper is = by (proof_of held now name qtype) refl is
    where
      by : (found : Option Proof) → proof_of held now name qtype ≡ found → option_or (option_map (λ proof. ending name (Proved proof)) found) rest ≡ Some walk → IsSoundWalk qtype name walk
      by None none told = deeper none walk told
      by (Some proof) there told = subst (IsSoundWalk qtype name) (same_Some (ending name (Proved proof)) walk told) (refl, proved name proof there)

  beyond_sound : (links : ℕ) (name : List Label) (walk : Walk) → proof_of held now name qtype ≡ None → beyond links rule held now qtype name ≡ Some walk → IsSoundWalk qtype name walk
  beyond_sound zero name walk none is = absurd (none-some walk is)
  beyond_sound (suc links) name walk none is =
      option_and_then_some (taken (λ target. option_or (proved_at held now qtype target) (beyond links rule held now qtype target)) name) (step_of rule held now qtype name) walk is
      (λ step found made. took qtype name (λ target. option_or (proved_at held now qtype target) (beyond links rule held now qtype target)) walk
      (λ target more told. proof_or target (beyond links rule held now qtype target) more (λ none' rest told'. beyond_sound links target rest none' told') told)
      step (step_sound name step none found) made)

  pub walk_sound : (name : List Label) (walk : Walk) → walk_of rule held now name qtype ≡ Some walk → IsSoundWalk qtype name walk
  unfolding walk_of
  walk_sound name walk is = proof_or name (beyond (links_of rule) rule held now qtype name) walk (λ none more told. beyond_sound (links_of rule) name more none told) is

not_true : (b : Bool) → not b ≡ true → b ≡ false
not_true true is = absurd (false≢true is)
not_true false is = refl

-- the walk of a query
pub walk_for_sound : EachIsSound → (rule : Rule) (held : Held) (now : ℕ) (name : List Label) (qtype qclass : ℕ) (walk : Walk) → walk_for rule held now name qtype qclass ≡ Some walk → IsSoundWalk qtype name walk
walk_for_sound each rule held now name qtype qclass walk is =
    let taken = if_then (asks_a_zone qtype qclass) (walk_of rule held now name qtype) walk is in
    walk_sound each rule held now qtype (not_true (is_forwarded qtype) (and_parts (qclass == IN_CLASS) (not (is_forwarded qtype)) taken.0).1) name walk taken.1
