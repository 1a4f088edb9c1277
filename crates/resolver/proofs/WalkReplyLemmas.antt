-- What is written is the reply of the held records: of what is proved of the question itself, or else of what lies beyond.
use Rattle.std.proofs.Common.{◌≡◌, ℕ, Bool, true, false, List, [], ◌++◌, Option, Some, None, refl, sym, ◌∙◌, ap, subst}
use Rattle.std.specs.Prelude.{min, if◌then◌else◌, unwrap_or, is_some, MatchBool, IsSome}
use Rattle.std.specs.List.{flat_map}
use Rattle.std.specs.Option.{option_map}
use Rattle.dname.specs.Name.{Label}
use Rattle.dname.specs.NameData.{one_name_in}
use Rattle.dname.specs.declared.types.TheConstants.{CNAME_TYPE, DS_TYPE}
use Rattle.dnswire.specs.declared.question.Question.{Question}
use Rattle.denial_records.specs.Proof.{Proof}
use Rattle.denial_records.specs.TimeLeft.{time_left}
use Rattle.denial_records.specs.declared.set_rec.SetRec.{SetRec}
use Rattle.denial_records.specs.declared.record.Record.{Record}
use Rattle.denial_records.specs.declared.verdict.Verdict.{Verdict}
use Rattle.cache_meaning.specs.Held.{Held}
use Rattle.cache_meaning.specs.Zones.{HeldZone, zone_in, zone_for}
use Rattle.cache_meaning.specs.Evidence.{usable_set}
use Rattle.cache_meaning.specs.Prove.{zone_proof, proof_of}
use Rattle.cache_meaning.specs.Ttl.{ttl_of}
use Rattle.cache_meaning.specs.Verdict.{IsVerdictOf}
use Rattle.reply_core.specs.Kept.{owner_of, listed}
use Rattle.reply_core.specs.Reply.{wants_dnssec, rcode_of, set_records, proof_records, answer_records, authority_records, limited_octets}
use Rattle.reply_core.specs.Sections.{alias_answers, sent_within}
use Rattle.reply_core.specs.Shown.{shown_by}
use Rattle.resolver.specs.Walk.{Walk, Proved, ending, takes_aliases, links_of, beyond, walk_of, asks_a_zone, walk_ttl}
use Rattle.resolver.specs.Lent.{one_alias}
use Rattle.resolver.specs.WalkReply.{walk_within, walk_in, octets_within}
use Rattle.resolver.specs.Origin.{is_any, proof_origin, origin_of, IsReplyOf}
use Rattle.resolver.specs.declared.origin.Origin.{Origin}
use Rattle.resolver.specs.declared.origin.Origin.TheVariants.{Alias}
use Rattle.resolver.specs.declared.rule.Rule.{Rule}
use Rattle.resolver.proofs.StepLemmas.{no_visit}
use Rattle.resolver.proofs.WalkLemmas.{Shown, shown, none_shown, proved_in, no_walk, beyond_walk, by_own_alias}
use Rattle.resolver.proofs.WritingLemmas.{all_new}

-- a walk by one alias gives the reply of its set and of the proof
one_alias_octets : (limit : ℕ) (question : Question) (set : SetRec) (target : List Label) (proof : Proof) (ttl : ℕ)
    → sent_within limit question (rcode_of proof.kind) ttl (alias_answers question set target proof) (authority_records question proof)
    ≡ walk_within limit question (one_alias question.name set target proof) ttl
one_alias_octets limit question set target proof ttl =
    ap (λ (them : List Record). sent_within limit question (rcode_of proof.kind) ttl (alias_answers question set target proof)
    (flat_map (λ soa. set_records (wants_dnssec question) (owner_of soa) soa) (listed proof.soa) ++ flat_map (proof_records (wants_dnssec question)) them))
    (sym (all_new proof.denials))

-- a walk without links gives the reply of its proof
plain : (limit : ℕ) (question : Question) (now : ℕ) (proof : Proof) → octets_within limit question now (ending question.name (Proved proof)) ≡ limited_octets limit question proof (ttl_of now proof)
plain limit question now proof =
    ap (λ (them : List Record). sent_within limit question (rcode_of proof.kind) (ttl_of now proof) (answer_records question proof)
    (flat_map (λ soa. set_records (wants_dnssec question) (owner_of soa) soa) (listed proof.soa) ++ flat_map (proof_records (wants_dnssec question)) them))
    (all_new proof.denials)

module _ (limit : ℕ) (rule : Rule) (held : Held) (question : Question) (now : ℕ) where
  -- what is proved of the question itself
  proved_walk : (proof : Proof) → proof_of held now question.name question.qtype ≡ Some proof → Some (ending question.name (Proved proof)) ≡ walk_of rule held now question.name question.qtype
  unfolding walk_of
  proved_walk proof is = rw is refl

  proof_replies : (verdict : Verdict) (origin : Origin) (octets : List ℕ) → Shown now (proof_of held now question.name question.qtype) verdict
      → origin ≡ proof_origin (shown_by verdict).kind (shown_by verdict).denials → octets ≡ limited_octets limit question (shown_by verdict) verdict.ttl
      → IsReplyOf limit question now (walk_of rule held now question.name question.qtype) (Some origin) octets
  proof_replies verdict origin octets proved made is =
      subst (λ (found : Option Walk). IsReplyOf limit question now found (Some origin) octets) (proved_walk (shown_by verdict) proved.proved)
      (record { made = ap Some made; written = is ∙ ap (limited_octets limit question (shown_by verdict)) proved.lives ∙ sym (plain limit question now (shown_by verdict)) })

  pub zone_proof_replies : (zone : HeldZone) (verdict : Verdict) (origin : Origin) (octets : List ℕ) → Some zone ≡ option_map (zone_in held) (zone_for held question.name question.qtype)
      → IsVerdictOf now (zone_proof zone.held now zone.apex question.name question.qtype) verdict → IsSome (zone_proof zone.held now zone.apex question.name question.qtype)
      → origin ≡ proof_origin (shown_by verdict).kind (shown_by verdict).denials → octets ≡ limited_octets limit question (shown_by verdict) verdict.ttl
      → IsReplyOf limit question now (walk_of rule held now question.name question.qtype) (Some origin) octets
  zone_proof_replies zone verdict origin octets its told some =
      proof_replies verdict origin octets
      (subst (λ (found : Option Proof). Shown now found verdict) (proved_in held now question.qtype question.name zone its) (shown now (zone_proof zone.held now zone.apex question.name question.qtype) verdict told some))

  -- or what lies beyond
  pub zone_beyond_replies : (zone : HeldZone) (origin : Option Origin) (octets : List ℕ) → Some zone ≡ option_map (zone_in held) (zone_for held question.name question.qtype)
      → (IsSome (zone_proof zone.held now zone.apex question.name question.qtype) → ⊥)
      → IsReplyOf limit question now (beyond (links_of rule) rule held now question.qtype question.name) origin octets
      → IsReplyOf limit question now (walk_of rule held now question.name question.qtype) origin octets
  zone_beyond_replies zone origin octets its none =
      subst (λ (found : Option Walk). IsReplyOf limit question now found origin octets)
      (beyond_walk rule held now question.qtype question.name
      (sym (proved_in held now question.qtype question.name zone its) ∙ none_shown (zone_proof zone.held now zone.apex question.name question.qtype) none))

  -- of a question that asks a zone
  pub zone_replies : (origin : Option Origin) (octets : List ℕ) → asks_a_zone question.qtype question.qclass ≡ true
      → IsReplyOf limit question now (walk_of rule held now question.name question.qtype) origin octets → IsReplyOf limit question now (walk_in rule held question now) origin octets
  zone_replies origin octets asks =
      subst (λ (b : Bool). IsReplyOf limit question now (if b then walk_of rule held now question.name question.qtype else None) origin octets) (sym asks)

  -- and of any other
  none_replies : (octets : List ℕ) → walk_in rule held question now ≡ None → octets ≡ [] → IsReplyOf limit question now (walk_in rule held question now) None octets
  none_replies octets none is = subst (λ (found : Option Walk). IsReplyOf limit question now found None octets) (sym none) (record { made = refl; written = is })

  pub none_asked : (octets : List ℕ) → asks_a_zone question.qtype question.qclass ≡ false → octets ≡ [] → IsReplyOf limit question now (walk_in rule held question now) None octets
  none_asked octets asks = none_replies octets (ap (λ (b : Bool). if b then walk_of rule held now question.name question.qtype else None) asks)

  pub none_there : (octets : List ℕ) → zone_for held question.name question.qtype ≡ None → octets ≡ [] → IsReplyOf limit question now (walk_in rule held question now) None octets
  none_there octets none = none_replies octets (by (asks_a_zone question.qtype question.qclass))
    where
      by : (asks : Bool) → (if asks then walk_of rule held now question.name question.qtype else None) ≡ None
      by true = sym (no_walk rule held now question.qtype question.name (sym (no_visit held now question.qtype question.name rule none)))
      by false = refl

-- there is a reply just where there is a walk
pub replies_by : (limit : ℕ) (question : Question) (now : ℕ) (found : Option Walk) (origin : Option Origin) (octets : List ℕ) → IsReplyOf limit question now found origin octets
    → MatchBool (is_some origin) (option_map (octets_within limit question now) found ≡ Some octets) ((option_map (octets_within limit question now) found ≡ None) × (octets ≡ []))
replies_by limit question now found origin octets told =
    subst (λ (o : Option Origin). MatchBool (is_some o) (option_map (octets_within limit question now) found ≡ Some octets) ((option_map (octets_within limit question now) found ≡ None) × (octets ≡ [])))
    (sym told.made) (by found told.written)
  where
    by : (found : Option Walk) → octets ≡ unwrap_or (option_map (octets_within limit question now) found) []
        → MatchBool (is_some (option_map origin_of found)) (option_map (octets_within limit question now) found ≡ Some octets) ((option_map (octets_within limit question now) found ≡ None) × (octets ≡ []))
    by None is = (refl, is)
    by (Some walk) is = ap Some (sym is)

-- with the TTL that it has
pub walk_replies : (limit : ℕ) (question : Question) (now ttl : ℕ) (found : Option Walk) (walk : Walk) (origin : Origin) (octets : List ℕ) → Some walk ≡ found → ttl ≡ walk_ttl now walk
    → origin ≡ origin_of walk → octets ≡ walk_within limit question walk ttl → IsReplyOf limit question now found (Some origin) octets
walk_replies limit question now ttl found walk origin octets there lives made is =
    subst (λ (w : Option Walk). IsReplyOf limit question now w (Some origin) octets) there
    (record { made = ap Some made; written = is ∙ ap (walk_within limit question walk) lives })

-- by the name's own CNAME set
pub alias_replies : (limit : ℕ) (held : Held) (now : ℕ) (question : Question) (apex target : List Label) (set : SetRec) (verdict : Verdict) (synthesized : Bool) (octets : List ℕ) (ttl : ℕ)
    → (question.qtype ≡ DS_TYPE → ⊥) → zone_for held question.name question.qtype ≡ Some apex → Some set ≡ usable_set held now apex question.name CNAME_TYPE
    → Some target ≡ one_name_in set.items → Shown now (proof_of held now target question.qtype) verdict → ttl ≡ min verdict.ttl (time_left set.life set.expiry now)
    → synthesized ≡ is_any (shown_by verdict).denials
    → octets ≡ sent_within limit question (rcode_of (shown_by verdict).kind) ttl (alias_answers question set target (shown_by verdict)) (authority_records question (shown_by verdict))
    → (rule : Rule) → takes_aliases rule ≡ true → IsReplyOf limit question now (beyond (links_of rule) rule held now question.qtype question.name) (Some (Alias synthesized)) octets
alias_replies limit held now question apex target set verdict synthesized octets ttl apart asked found leads proved lives denies is rule takes =
    let walk = one_alias question.name set target (shown_by verdict) in
    walk_replies limit question now ttl (beyond (links_of rule) rule held now question.qtype question.name) walk (Alias synthesized) octets
    (sym (by_own_alias rule held now question.qtype question.name apex target set (shown_by verdict) takes apart asked found leads proved.proved))
    (lives ∙ ap (λ least. min least (time_left set.life set.expiry now)) proved.lives)
    (ap Alias denies)
    (is ∙ one_alias_octets limit question set target (shown_by verdict) ttl)
