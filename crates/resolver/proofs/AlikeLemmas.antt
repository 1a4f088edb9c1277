-- A walk reads a held state by its look-ups alone, so the order of its records means nothing.
use Rattle.std.proofs.Common.{◌≡◌, ◌∙◌, ℕ, zero, suc, List, [], ◌∷◌, Option, None, refl, sym, ap}
use Rattle.std.specs.Prelude.{◌==◌, if◌then◌else◌}
use Rattle.std.specs.Option.{option_or, option_map, option_and_then}
use Rattle.dname.specs.Name.{Label}
use Rattle.dname.specs.declared.types.TheConstants.{CNAME_TYPE, DNAME_TYPE, DS_TYPE}
use Rattle.dnswire.specs.declared.question.Question.{Question}
use Rattle.denial_records.specs.Proof.{Proof}
use Rattle.denial_records.specs.declared.batch.Batch.{Batch}
use Rattle.cache_meaning.specs.Held.{Held, held_of}
use Rattle.cache_meaning.specs.Evidence.{usable_set}
use Rattle.held_laws.specs.HeldLaws.{SameLookups}
use Rattle.held_laws.specs.KeyOrder.{kept_of}
use Rattle.held_laws.proofs.AnswerLemmas.{proof_alike, same_lookups}
use Rattle.held_laws.proofs.OrderedLemmas.{all_alike}
use Rattle.resolver.specs.Target.{target_of}
use Rattle.resolver.specs.Dname.{Dname, dname_of, dname_at, topmost_dname, dname_above}
use Rattle.resolver.specs.Walk.{Walk, Proved, ending, alias_step, by_alias, dname_step, by_dname, step_of, takes_aliases, takes_redirections, links_of, proved_at, taken, beyond, walk_of, asks_a_zone}
use Rattle.resolver.specs.WalkReply.{walk_in, octets_at, walk_reply_in}
use Rattle.resolver.specs.Origin.{origin_of, origin_in}
use Rattle.resolver.specs.declared.rule.Rule.{Rule}

module _ (held other : Held) (same : SameLookups held other) (now qtype : ℕ) where
  set_alike : (zone owner : List Label) → usable_set held now zone owner DNAME_TYPE ≡ usable_set other now zone owner DNAME_TYPE
  set_alike zone owner = simp same.set

  dname_alike : (zone owner : List Label) → dname_at held now zone owner ≡ dname_at other now zone owner
  dname_alike zone owner = ap (option_and_then dname_of) (set_alike zone owner)

  topmost_alike : (zone name : List Label) → topmost_dname held now zone name ≡ topmost_dname other now zone name
  topmost_alike zone [] = refl
  topmost_alike zone (label ∷ rest) = λ i. option_or (topmost_alike zone rest i) (dname_alike zone rest i)

  above_alike : (name : List Label) → dname_above held now name qtype ≡ dname_above other now name qtype
  above_alike name = λ i. option_and_then (λ zone. topmost_alike zone name i) (same.zone name qtype i)

  by_dname_alike : (name : List Label) → by_dname held now qtype name ≡ by_dname other now qtype name
  by_dname_alike name = ap (option_map (λ (dname : Dname). dname_step qtype dname.set (target_of name dname.set.owner dname.suffix))) (above_alike name)

  by_alias_alike : (name : List Label) → by_alias held now qtype name ≡ by_alias other now qtype name
  by_alias_alike name =
      ap (λ (found : Option Proof). if qtype == DS_TYPE then None else option_and_then alias_step found) (proof_alike held other same now name CNAME_TYPE)

  step_alike : (rule : Rule) (name : List Label) → step_of rule held now qtype name ≡ step_of rule other now qtype name
  step_alike rule name = λ i. option_or
      (if takes_aliases rule then by_alias_alike name i else None)
      (if takes_redirections rule then by_dname_alike name i else None)

  proved_alike : (name : List Label) → proved_at held now qtype name ≡ proved_at other now qtype name
  proved_alike name = ap (option_map (λ proof. ending name (Proved proof))) (proof_alike held other same now name qtype)

  beyond_alike : (links : ℕ) (rule : Rule) (name : List Label) → beyond links rule held now qtype name ≡ beyond links rule other now qtype name
  beyond_alike zero rule name = refl
  beyond_alike (suc links) rule name = λ i. option_and_then
      (taken (λ target. option_or (proved_alike target i) (beyond_alike links rule target i)) name)
      (step_alike rule name i)

  walk_alike : (rule : Rule) (name : List Label) → walk_of rule held now name qtype ≡ walk_of rule other now name qtype
  unfolding walk_of
  walk_alike rule name = λ i. option_or (proved_alike name i) (beyond_alike (links_of rule) rule name i)

-- what is kept in the order of keys gives the walk that what is held gives
pub walk_as_held : (rule : Rule) (journal : List Batch) (held : Held) (question : Question) (now : ℕ) → held ≡ kept_of journal → walk_in rule held question now ≡ walk_in rule (held_of journal) question now
walk_as_held rule journal held question now kept =
    let alike = all_alike journal in
    ap (λ (h : Held). walk_in rule h question now) kept
    ∙ sym (ap (λ (found : Option Walk). if asks_a_zone question.qtype question.qclass then found else None)
    (walk_alike _ _ (same_lookups _ _ alike.apart alike.order) now question.qtype rule question.name))

-- and so its reply
pub reply_as_held : (rule : Rule) (journal : List Batch) (held : Held) (question : Question) (now : ℕ) → held ≡ kept_of journal → walk_reply_in rule held question now ≡ walk_reply_in rule (held_of journal) question now
reply_as_held rule journal held question now kept = ap (option_map (octets_at question now)) (walk_as_held rule journal held question now kept)

-- and from what that is made
pub origin_as_held : (rule : Rule) (journal : List Batch) (held : Held) (question : Question) (now : ℕ) → held ≡ kept_of journal → origin_in rule held question now ≡ origin_in rule (held_of journal) question now
origin_as_held rule journal held question now kept = ap (option_map origin_of) (walk_as_held rule journal held question now kept)
