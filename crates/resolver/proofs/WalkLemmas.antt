-- A walk on from a name: how it begins, goes on and ends.
use Rattle.std.proofs.Common.{◌≡◌, ℕ, suc, ◌-◌, ◌+◌, ◌<◌, Bool, true, List, [], ◌∷◌, ◌++◌, length, Option, Some, None, refl, sym, ◌∙◌, ap, subst, arith, append_assoc, append-nil, length-append}
use Rattle.std.specs.Prelude.{fold, min, if◌then◌else◌, IfSome, IsSome}
use Rattle.std.specs.List.{All}
use Rattle.std.specs.Option.{option_map, option_or, option_and_then}
use Rattle.std.proofs.lemmas.Bool.{false≢true}
use Rattle.std.proofs.lemmas.List.Elements.{All-nil, All-push, All-head, All-tail}
use Rattle.dname.specs.Name.{Label}
use Rattle.dname.specs.NameData.{one_name_in}
use Rattle.dname.specs.declared.types.TheConstants.{CNAME_TYPE, DS_TYPE}
use Rattle.denial_records.specs.Proof.{Proof}
use Rattle.denial_records.specs.declared.set_rec.SetRec.{SetRec}
use Rattle.denial_records.specs.declared.verdict.Verdict.{Verdict}
use Rattle.cache_meaning.specs.Held.{Held}
use Rattle.cache_meaning.specs.Zones.{HeldZone, zone_in, zone_for, chains_of, first_of}
use Rattle.cache_meaning.specs.Evidence.{usable_set}
use Rattle.cache_meaning.specs.NsecSteps.{answer_by}
use Rattle.cache_meaning.specs.Prove.{chain_proof, zone_proof, proof_of}
use Rattle.cache_meaning.specs.Ttl.{ttl_of}
use Rattle.cache_meaning.specs.Verdict.{IsVerdictOf}
use Rattle.cache_meaning.proofs.StepLemmas.{in_zone}
use Rattle.reply_core.specs.Shown.{shown_by}
use Rattle.reply_core.proofs.ShownLemmas.{shown_is}
use Rattle.resolver.specs.Walk.{ByAlias, Link, Proved, Walk, Step, Onto, Ends, ending, behind, taken, takes_aliases, takes_redirections, links_of, by_alias, by_dname, step_of, proved_at, beyond, walk_of, where_none, redirection_of, way_ttl, walk_ttl}
use Rattle.resolver.specs.Lent.{next_by, led_by, way_by, links_by, end_by, walk_by, step_by, told_by_way, told_by_end, one_alias, TellsWay, TellsEnd, TellsStep, Leads, visit_of, within}
use Rattle.resolver.specs.SoundWalk.{IsSoundWalk}
use Rattle.resolver.specs.declared.rule.Rule.{Rule}
use Rattle.resolver.specs.declared.rule.Rule.TheVariants.{Aliases, Redirection, Both}
use Rattle.resolver.specs.declared.step.Step.{Step as LentStep}
use Rattle.resolver.specs.declared.step.Step.TheVariants as steps
use Rattle.resolver.specs.declared.walk.Way.{Way as LentWay}
use Rattle.resolver.specs.declared.walk.End.{End as LentEnd}
use Rattle.resolver.specs.declared.walk.End.TheVariants as ends
use Rattle.resolver.specs.declared.walk.Walk.{Walk as LentWalk}
use Rattle.resolver.proofs.StepLemmas.{zone_is, alias_in, no_step}

-- ---- verdicts

-- a verdict is the proof that there is
pub record Shown (now : ℕ) (found : Option Proof) (verdict : Verdict) : Type 0 where
  pub proved : found ≡ Some (shown_by verdict)
  pub lives : verdict.ttl ≡ ttl_of now (shown_by verdict)

pub shown : (now : ℕ) (found : Option Proof) (verdict : Verdict) → IsVerdictOf now found verdict → IsSome found → Shown now found verdict
shown now None verdict told some = absurd (false≢true some)
shown now (Some proof) verdict told some =
    let is = shown_is verdict proof told.shows in
    record { proved = ap Some (sym is); lives = told.ttl_is ∙ ap (ttl_of now) (sym is) }

pub none_shown : (found : Option Proof) → (IsSome found → ⊥) → found ≡ None
none_shown None none = refl
none_shown (Some proof) none = absurd (none refl)

-- ---- links in front

behind_both : (first second : List Link) (found : Option Walk) → option_map (behind first) (option_map (behind second) found) ≡ option_map (behind (first ++ second)) found
behind_both first second None = refl
behind_both first second (Some walk) = ap (λ links. Some (record { links = links; last_name = walk.last_name; end = walk.end })) (sym (append_assoc first second walk.links))

-- a link more
links_more : (name : List Label) (links : List LentWay) (way : LentWay)
    → links_by name (links ++ way ∷ []) ≡ links_by name links ++ record { owner = led_by name links; way = way_by way (next_by (led_by name links) way) } ∷ []
links_more name [] way = refl
links_more name (first ∷ links) way = ap (λ rest. record { owner = name; way = way_by first (next_by name first) } ∷ rest) (links_more (next_by name first) links way)

pub led_more : (name : List Label) (links : List LentWay) (way : LentWay) → led_by name (links ++ way ∷ []) ≡ next_by (led_by name links) way
led_more name [] way = refl
led_more name (first ∷ links) way = led_more (next_by name first) links way

-- ---- TTLs

least_ttls : (now : ℕ) (name : List Label) (links : List LentWay) (start : ℕ) → All (TellsWay now) links
    → fold (λ ttl (way : LentWay). min ttl (told_by_way now way)) start links ≡ fold (λ ttl (link : Link). min ttl (way_ttl now link.way)) start (links_by name links)
least_ttls now name [] start tells = refl
least_ttls now name (way ∷ links) start tells =
    least_ttls now (next_by name way) links (min start (told_by_way now way)) (All-tail (TellsWay now) way links tells)
    ∙ ap (λ ttl. fold (λ ttl (link : Link). min ttl (way_ttl now link.way)) (min start ttl) (links_by (next_by name way) links)) (All-head (TellsWay now) way links tells (next_by name way))

-- ---- a walk that has ended

-- the walk is made of these links and this end
pub record IsMadeOf (now : ℕ) (name : List Label) (links : List LentWay) (here : List Label) (end : LentEnd) (walk : LentWalk) : Type 0 where
  pub is : walk_by walk ≡ record { links = links_by name links; last_name = here; end = end_by here end }
  pub lives : walk.ttl ≡ walk_ttl now (walk_by walk)

pub made_of : (now : ℕ) (name : List Label) (links : List LentWay) (here : List Label) (end : LentEnd) (walk : LentWalk)
    → walk.name ≡ name → walk.links.items ≡ links → walk.last_name ≡ here → walk.end ≡ end
    → walk.ttl ≡ fold (λ ttl (way : LentWay). min ttl (told_by_way now way)) (told_by_end now end) links → All (TellsWay now) links → TellsEnd now end → IsMadeOf now name links here end walk
made_of now name links here end walk of_name of_links of_last of_end of_ttl tells tells_end =
    let is : walk_by walk ≡ record { links = links_by name links; last_name = here; end = end_by here end } =
    λ i. record { links = links_by (of_name i) (of_links i); last_name = of_last i; end = end_by (of_last i) (of_end i) } in
    record {
      is = is;
      lives =
          of_ttl
          ∙ ap (λ ttl. fold (λ ttl (way : LentWay). min ttl (told_by_way now way)) ttl links) (tells_end here)
          ∙ least_ttls now name links _ tells
          ∙ ap (walk_ttl now) (sym is);
    }

-- ---- the definition, step by step

-- each rule has a link
some_links : (rule : Rule) → (links : ℕ) × (links_of rule ≡ suc links)
some_links Aliases = (7, refl)
some_links Redirection = (0, refl)
some_links Both = (7, refl)

module _ (rule : Rule) (held : Held) (now qtype : ℕ) where
  -- with a link to spare what is proved of a name ends the walk, and else the step is taken
  within_suc : (left : ℕ) (name : List Label) → within (suc left) rule held now qtype name ≡ option_and_then (taken (within left rule held now qtype) name) (visit_of rule held now qtype name)
  within_suc left name = by (proof_of held now name qtype)
    where
      by : (found : Option Proof)
          → option_or (option_map (λ proof. ending name (Proved proof)) found) (option_and_then (taken (within left rule held now qtype) name) (step_of rule held now qtype name))
          ≡ option_and_then (taken (within left rule held now qtype) name) (option_or (option_map (λ proof. Ends (Proved proof)) found) (step_of rule held now qtype name))
      by None = refl
      by (Some proof) = refl

  -- without one, what is proved of it
  within_zero : (name : List Label) → within 0 rule held now qtype name ≡ proved_at held now qtype name
  within_zero name = by (proved_at held now qtype name)
    where
      by : (found : Option Walk) → option_or found None ≡ found
      by None = refl
      by (Some walk) = refl

  -- ---- the whole

  walk_visited : (name : List Label) (found : Option Step) (links : ℕ) → links_of rule ≡ suc links → found ≡ visit_of rule held now qtype name
      → option_and_then (taken (within links rule held now qtype) name) found ≡ walk_of rule held now name qtype
  unfolding walk_of
  walk_visited name found links some is =
      ap (option_and_then (taken (within links rule held now qtype) name)) is
      ∙ sym (within_suc links name)
      ∙ ap (λ n. within n rule held now qtype name) (sym some)

  beyond_stepped : (name : List Label) (found : Option Step) (links : ℕ) → links_of rule ≡ suc links → found ≡ step_of rule held now qtype name
      → option_and_then (taken (within links rule held now qtype) name) found ≡ beyond (links_of rule) rule held now qtype name
  beyond_stepped name found links some is =
      ap (option_and_then (taken (within links rule held now qtype) name)) is
      ∙ ap (λ n. beyond n rule held now qtype name) (sym some)

  -- the walk is what comes of the step
  pub walk_is : (name : List Label) (step : Step) (given : Option LentWalk) → Some step ≡ visit_of rule held now qtype name
      → ((links : ℕ) → links_of rule ≡ suc links → option_map walk_by given ≡ taken (within links rule held now qtype) name step) → option_map walk_by given ≡ walk_of rule held now name qtype
  walk_is name step given is told = let some = some_links rule in told some.0 some.1 ∙ walk_visited name (Some step) some.0 some.1 is

  pub no_walk : (name : List Label) → None ≡ visit_of rule held now qtype name → None ≡ walk_of rule held now name qtype
  no_walk name is = let some = some_links rule in walk_visited name None some.0 some.1 is

  pub beyond_is : (name : List Label) (step : Step) (given : Option LentWalk) → Some step ≡ step_of rule held now qtype name
      → ((links : ℕ) → links_of rule ≡ suc links → option_map walk_by given ≡ taken (within links rule held now qtype) name step) → option_map walk_by given ≡ beyond (links_of rule) rule held now qtype name
  beyond_is name step given is told = let some = some_links rule in told some.0 some.1 ∙ beyond_stepped name (Some step) some.0 some.1 is

  pub nothing_beyond : (name : List Label) → None ≡ step_of rule held now qtype name → None ≡ beyond (links_of rule) rule held now qtype name
  nothing_beyond name is = let some = some_links rule in beyond_stepped name None some.0 some.1 is

  -- ---- the loop's turns

  -- these links were followed to a name, and what is found from there on with at most so many makes the whole
  pub record HasGone (name : List Label) (whole : Option Walk) (left : ℕ) (links : List LentWay) (here : List Label) : Type 0 where
    pub rest : option_map (behind (links_by name links)) (within left rule held now qtype here) ≡ whole
    pub at : here ≡ led_by name links
    pub tells : All (TellsWay now) links

  -- what is given is the whole, with its TTL
  pub record IsGiven (whole : Option Walk) (walk : LentWalk) : Type 0 where
    pub is : Some (walk_by walk) ≡ whole
    pub lives : walk.ttl ≡ walk_ttl now (walk_by walk)

  module _ (name : List Label) (whole : Option Walk) (left : ℕ) (links : List LentWay) (here : List Label) (was : HasGone name whole left links here) where
    -- the end is found here
    ends_here : (end : LentEnd) (walk : LentWalk) → within left rule held now qtype here ≡ Some (ending here (end_by here end)) → IsMadeOf now name links here end walk → IsGiven whole walk
    ends_here end walk is made = record {
      is =
          ap Some made.is
          ∙ ap (λ them. Some (record { links = them; last_name = here; end = end_by here end })) (sym (append-nil (links_by name links)))
          ∙ ap (option_map (behind (links_by name links))) (sym is)
          ∙ was.rest;
      lives = made.lives;
    }

    visited : (less : ℕ) (found : Option Step) → left ≡ suc less → found ≡ visit_of rule held now qtype here
        → within left rule held now qtype here ≡ option_and_then (taken (within less rule held now qtype) here) found
    visited less found one is =
        ap (λ n. within n rule held now qtype here) one ∙ within_suc less here ∙ ap (option_and_then (taken (within less rule held now qtype) here)) (sym is)

    pub gone_nowhere : (less : ℕ) → left ≡ suc less → None ≡ visit_of rule held now qtype here → None ≡ whole
    gone_nowhere less one is = ap (option_map (behind (links_by name links))) (sym (visited less None one is)) ∙ was.rest

    pub gone_to_end : (less : ℕ) (end : LentEnd) (walk : LentWalk) → left ≡ suc less → Some (Ends (end_by here end)) ≡ visit_of rule held now qtype here → IsMadeOf now name links here end walk → IsGiven whole walk
    gone_to_end less end walk one is made = ends_here end walk (visited less (Some (Ends (end_by here end))) one is) made

    pub gone_on : (less : ℕ) (way : LentWay) (target : List Label) → left ≡ suc less → Some (Onto (way_by way target) target) ≡ visit_of rule held now qtype here → target ≡ next_by here way → TellsWay now way
        → HasGone name whole less (links ++ way ∷ []) target
    gone_on less way target one is leads tells =
        let rest = within less rule held now qtype target in
        let led : target ≡ next_by (led_by name links) way = leads ∙ ap (λ n. next_by n way) was.at in
        let more : links_by name (links ++ way ∷ []) ≡ links_by name links ++ record { owner = here; way = way_by way target } ∷ [] =
        links_more name links way ∙ (λ i. links_by name links ++ record { owner = sym was.at i; way = way_by way (sym led i) } ∷ []) in
        record {
          rest =
              ap (λ them. option_map (behind them) rest) more
              ∙ sym (behind_both (links_by name links) (record { owner = here; way = way_by way target } ∷ []) rest)
              ∙ ap (option_map (behind (links_by name links))) (sym (visited less (Some (Onto (way_by way target) target)) one is))
              ∙ was.rest;
          at = led ∙ sym (led_more name links way);
          tells = All-push (TellsWay now) links way was.tells tells;
        }

    -- no link is left
    out_is : left ≡ 0 → within left rule held now qtype here ≡ proved_at held now qtype here
    out_is none = ap (λ n. within n rule held now qtype here) none ∙ within_zero here

    pub gone_out : left ≡ 0 → proof_of held now here qtype ≡ None → None ≡ whole
    gone_out none nothing =
        let found : within left rule held now qtype here ≡ None = out_is none ∙ ap (option_map (λ proof. ending here (Proved proof))) nothing in
        ap (option_map (behind (links_by name links))) (sym found) ∙ was.rest

    pub gone_to_proof : (verdict : Verdict) (end : LentEnd) (walk : LentWalk) → left ≡ 0 → end_by here end ≡ Proved (shown_by verdict) → proof_of held now here qtype ≡ Some (shown_by verdict) → IsMadeOf now name links here end walk → IsGiven whole walk
    gone_to_proof verdict end walk none of_end proved made =
        let found : within left rule held now qtype here ≡ Some (ending here (end_by here end)) =
        out_is none ∙ ap (option_map (λ proof. ending here (Proved proof))) proved ∙ ap (λ e. Some (ending here e)) (sym of_end) in
        ends_here end walk found made

  -- the whole that the first link begins
  pub whole_is : (name : List Label) (way : LentWay) (target : List Label) (first : List LentWay) (most links : ℕ) → first ≡ way ∷ [] → target ≡ next_by name way → most ≡ links_of rule → links_of rule ≡ suc links
      → option_map (behind (links_by name first)) (within (most - 1) rule held now qtype target) ≡ option_map (behind (record { owner = name; way = way_by way target } ∷ [])) (within links rule held now qtype target)
  whole_is name way target first most links one leads all some =
      let left : most - 1 ≡ links = omega (arith, all, some) in
      (λ i. option_map (behind (links_by name (one i))) (within (left i) rule held now qtype target))
      ∙ ap (λ next. option_map (behind (record { owner = name; way = way_by way next } ∷ [])) (within links rule held now qtype target)) (sym leads)

-- ---- one alias

-- what a zone's records prove of a name and a type, by the set there that may be used
pub proved_by : (held : Held) (now : ℕ) (apex name : List Label) (qtype : ℕ) (set : Option SetRec) → set ≡ usable_set held now apex name qtype
    → zone_proof held now apex name qtype ≡ option_or (option_map (λ it. answer_by it []) set) (first_of (chain_proof held now apex name qtype) (chains_of held apex))
proved_by held now apex name qtype set is =
    ap (λ (it : Option SetRec). option_or (option_map (λ set. answer_by set []) it) (first_of (chain_proof held now apex name qtype) (chains_of held apex))) (sym is)

-- the walk by the name's own CNAME set to a name of which there is a proof
pub by_own_alias : (rule : Rule) (held : Held) (now qtype : ℕ) (name apex target : List Label) (set : SetRec) (proof : Proof) → takes_aliases rule ≡ true → (qtype ≡ DS_TYPE → ⊥)
    → zone_for held name qtype ≡ Some apex → Some set ≡ usable_set held now apex name CNAME_TYPE → Some target ≡ one_name_in set.items → proof_of held now target qtype ≡ Some proof
    → beyond (links_of rule) rule held now qtype name ≡ Some (one_alias name set target proof)
by_own_alias rule held now qtype name apex target set proof takes apart asked found leads proved =
    let alias = answer_by set [] in
    let some = some_links rule in
    let proved_alias : zone_proof held now apex name CNAME_TYPE ≡ Some alias = proved_by held now apex name CNAME_TYPE (Some set) found in
    let by : by_alias held now qtype name ≡ Some (Onto (ByAlias alias) target) =
    sym (alias_in held now qtype name apex (Some alias) apart asked proved_alias) ∙ ap (option_map (Onto (ByAlias alias))) (sym leads) in
    let step : Some (Onto (ByAlias alias) target) ≡ step_of rule held now qtype name =
    ap (λ (it : Option Step). option_or it (if takes_redirections rule then by_dname held now qtype name else None)) (sym by)
    ∙ ap (λ (b : Bool). option_or (if b then by_alias held now qtype name else None) (if takes_redirections rule then by_dname held now qtype name else None)) (sym takes) in
    sym (beyond_stepped rule held now qtype name (Some (Onto (ByAlias alias) target)) some.0 some.1 step)
    ∙ ap (λ (it : Option Proof). option_map (behind (record { owner = name; way = ByAlias alias } ∷ []))
    (option_or (option_map (λ proof. ending target (Proved proof)) it) (beyond some.0 rule held now qtype target))) proved

-- ---- what is sound

pub sound_if_some : (qtype : ℕ) (name : List Label) (found : Option Walk) (given : Option LentWalk) → ((walk : Walk) → found ≡ Some walk → IsSoundWalk qtype name walk) → option_map walk_by given ≡ found
    → IfSome given (λ walk. IsSoundWalk qtype name (walk_by walk))
sound_if_some qtype name found None each is = tt
sound_if_some qtype name found (Some walk) each is = each (walk_by walk) (sym is)

-- where nothing is proved of the name, the walk is what lies beyond
pub beyond_walk : (rule : Rule) (held : Held) (now qtype : ℕ) (name : List Label) → proof_of held now name qtype ≡ None → beyond (links_of rule) rule held now qtype name ≡ walk_of rule held now name qtype
unfolding walk_of
beyond_walk rule held now qtype name none = rw none refl

-- ---- the first name

-- what is proved of it ends the walk
pub visit_proved : (rule : Rule) (held : Held) (now qtype : ℕ) (name : List Label) (zone : HeldZone) (verdict : Verdict) → Some zone ≡ option_map (zone_in held) (zone_for held name qtype)
    → Shown now (zone_proof zone.held now zone.apex name qtype) verdict → Some (Ends (Proved (shown_by verdict))) ≡ visit_of rule held now qtype name
visit_proved rule held now qtype name zone verdict is proved =
    let there : proof_of held now name qtype ≡ Some (shown_by verdict) = sym (in_zone held (λ h apex. zone_proof h now apex name qtype) (zone_for held name qtype) zone is) ∙ proved.proved in
    ap (λ (it : Option Proof). option_or (option_map (λ proof. Ends (Proved proof)) it) (step_of rule held now qtype name)) (sym there)

-- and else it makes a step
pub visit_stepped : (rule : Rule) (held : Held) (now qtype : ℕ) (name : List Label) (zone : HeldZone) (found : Option Step) → Some zone ≡ option_map (zone_in held) (zone_for held name qtype)
    → zone_proof zone.held now zone.apex name qtype ≡ None → found ≡ step_of rule zone.held now qtype name → found ≡ visit_of rule held now qtype name
visit_stepped rule held now qtype name zone found is nothing stepped =
    let none : proof_of held now name qtype ≡ None = sym (in_zone held (λ h apex. zone_proof h now apex name qtype) (zone_for held name qtype) zone is) ∙ nothing in
    stepped
    ∙ ap (λ (h : Held). step_of rule h now qtype name) (zone_is held name qtype zone is).0
    ∙ ap (λ (it : Option Proof). option_or (option_map (λ proof. Ends (Proved proof)) it) (step_of rule held now qtype name)) (sym none)

pub proved_in : (held : Held) (now qtype : ℕ) (name : List Label) (zone : HeldZone) → Some zone ≡ option_map (zone_in held) (zone_for held name qtype)
    → zone_proof zone.held now zone.apex name qtype ≡ proof_of held now name qtype
proved_in held now qtype name zone is = in_zone held (λ h apex. zone_proof h now apex name qtype) (zone_for held name qtype) zone is

-- a walk without a link
pub ended_here : (rule : Rule) (held : Held) (now qtype : ℕ) (name : List Label) (links : ℕ) (step : LentStep) (end : LentEnd) (walk : LentWalk) (none : List LentWay) (last : List Label)
    → step ≡ steps.Ends end → TellsStep now step → none ≡ [] → last ≡ name → walk.name ≡ name → walk.links.items ≡ none → walk.last_name ≡ last → walk.end ≡ end
    → walk.ttl ≡ fold (λ ttl (way : LentWay). min ttl (told_by_way now way)) (told_by_end now end) none
    → IsGiven rule held now qtype (taken (within links rule held now qtype) name (step_by name step)) walk
ended_here rule held now qtype name links step end walk none last is tells nothing same of_name of_links of_last of_end of_ttl =
    let made = made_of now name [] name end walk of_name (of_links ∙ nothing) (of_last ∙ same) of_end
    (of_ttl ∙ ap (fold (λ ttl (way : LentWay). min ttl (told_by_way now way)) (told_by_end now end)) nothing) (All-nil (TellsWay now)) (subst (TellsStep now) is tells) in
    record {
      is = ap Some made.is ∙ ap (λ (s : LentStep). taken (within links rule held now qtype) name (step_by name s)) (sym is);
      lives = made.lives;
    }

-- ---- the loop's turns, by what the code has at hand

module _ (rule : Rule) (held : Held) (now qtype : ℕ) (name : List Label) (whole : Option Walk) (most counter : ℕ) (links : List LentWay) (here : List Label)
    (less : counter < most) (was : HasGone rule held now qtype name whole (most - counter) links here) where
  one_left : most - counter ≡ suc (most - (counter + 1))
  one_left = omega (arith, less)

  pub by_none : None ≡ visit_of rule held now qtype here → None ≡ whole
  by_none is = gone_nowhere rule held now qtype name whole (most - counter) links here was (most - (counter + 1)) one_left is

  module _ (step : LentStep) (given : Some (step_by here step) ≡ visit_of rule held now qtype here) (leads : Leads here step) (tells : TellsStep now step) where
    pub by_end : (end : LentEnd) (walk : LentWalk) → step ≡ steps.Ends end → walk.name ≡ name → walk.links.items ≡ links → walk.last_name ≡ here → walk.end ≡ end
        → walk.ttl ≡ fold (λ ttl (way : LentWay). min ttl (told_by_way now way)) (told_by_end now end) links → IsGiven rule held now qtype whole walk
    by_end end walk is of_name of_links of_last of_end of_ttl =
        gone_to_end rule held now qtype name whole (most - counter) links here was (most - (counter + 1)) end walk one_left
        (ap (λ (s : LentStep). Some (step_by here s)) (sym is) ∙ given)
        (made_of now name links here end walk of_name of_links of_last of_end of_ttl was.tells (subst (TellsStep now) is tells))

    pub by_more : (way : LentWay) (target : List Label) (pushed : List LentWay) → step ≡ steps.Onto way target → pushed ≡ links ++ way ∷ [] → length links ≡ counter
        → (length pushed ≡ counter + 1) × HasGone rule held now qtype name whole (most - (counter + 1)) pushed target
    by_more way target pushed is push few = (
      ap length push ∙ length-append links (way ∷ []) ∙ ap (λ n. n + 1) few,
      subst (λ them. HasGone rule held now qtype name whole (most - (counter + 1)) them target) (sym push)
          (gone_on rule held now qtype name whole (most - counter) links here was (most - (counter + 1)) way target one_left
          (ap (λ (s : LentStep). Some (step_by here s)) (sym is) ∙ given)
          (subst (Leads here) is leads) (subst (TellsStep now) is tells)),
    )

-- no link is left, and something is proved of the last name, or nothing
pub by_last : (rule : Rule) (held : Held) (now qtype : ℕ) (name : List Label) (whole : Option Walk) (left : ℕ) (links : List LentWay) (here : List Label) (verdict : Verdict) (walk : LentWalk)
    → left ≡ 0 → HasGone rule held now qtype name whole left links here → Shown now (proof_of held now here qtype) verdict
    → walk.name ≡ name → walk.links.items ≡ links → walk.last_name ≡ here → walk.end ≡ ends.Proved verdict
    → walk.ttl ≡ fold (λ ttl (way : LentWay). min ttl (told_by_way now way)) verdict.ttl links → IsGiven rule held now qtype whole walk
by_last rule held now qtype name whole left links here verdict walk none was proved of_name of_links of_last of_end of_ttl =
    gone_to_proof rule held now qtype name whole left links here was verdict (ends.Proved verdict) walk none refl proved.proved
    (made_of now name links here (ends.Proved verdict) walk of_name of_links of_last of_end of_ttl was.tells (λ last. proved.lives))

-- the first link
pub gone_first : (rule : Rule) (held : Held) (now qtype : ℕ) (name : List Label) (left : ℕ) (links : List LentWay) (way : LentWay) (here : List Label)
    → links ≡ way ∷ [] → here ≡ next_by name way → TellsWay now way
    → HasGone rule held now qtype name (option_map (behind (links_by name links)) (within left rule held now qtype here)) left links here
gone_first rule held now qtype name left links way here one leads tells = record {
  rest = refl;
  at = leads ∙ ap (led_by name) (sym one);
  tells = subst (All (TellsWay now)) (sym one) (All-push (TellsWay now) [] way (All-nil (TellsWay now)) tells);
}

-- without a zone a name is not redirected
pub nowhere_redirected : (held : Held) (now qtype : ℕ) (name : List Label) → zone_for held name qtype ≡ None → redirection_of held now name qtype ≡ None
nowhere_redirected held now qtype name none =
    let proved : proof_of held now name qtype ≡ None = ap (option_and_then (λ zone. zone_proof held now zone name qtype)) none in
    ap (λ (found : Option Proof). where_none found (beyond (links_of Redirection) Redirection held now qtype name)) proved
    ∙ sym (nothing_beyond Redirection held now qtype name (sym (no_step held now qtype name Redirection none)))
