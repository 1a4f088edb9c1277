-- What a version has for a question, as what is held has it.
use Rattle.std.proofs.Common.{◌≡◌, ◌∙◌, ℕ, List, Option, None, Some, refl, sym, ap}
use Rattle.std.specs.Option.{option_map}
use Rattle.dnswire.specs.declared.question.Question.{Question}
use Rattle.denial_records.specs.declared.batch.Batch.{Batch}
use Rattle.cache_meaning.specs.Held.{Held, held_of}
use Rattle.held_laws.specs.KeyOrder.{kept_of}
use Rattle.resolver.specs.Origin.{is_synthesized, origin_in, origin_of}
use Rattle.resolver.specs.Walk.{Walk}
use Rattle.resolver.specs.WalkReply.{octets_within, walk_in, walk_reply_within}
use Rattle.resolver.specs.declared.origin.Origin.{Origin}
use Rattle.resolver.specs.declared.rule.Rule.TheVariants.{Both}
use Rattle.resolver.proofs.AlikeLemmas.{walk_as_held}
use Rattle.forwarding.specs.Done.{found_as, found_within, shown}
use Rattle.forwarding.specs.ExtendedError.{marked}

module _ (limit : ℕ) (question : Question) (now : ℕ) where
  shown_of : (walk : Option Walk) (origin : Origin) (reply octets : List ℕ) → option_map (octets_within limit question now) walk ≡ Some reply → Some origin ≡ option_map origin_of walk → octets ≡ marked limit question (is_synthesized origin) reply → option_map (shown limit question now) walk ≡ Some (found_as octets origin)
  shown_of None origin reply octets is from mark = absurd (cc is)
  shown_of (Some walk) origin reply octets is from mark =
      let same : octets_within limit question now walk ≡ reply = cc in
      let made : origin_of walk ≡ origin = cc in
      let mark' : marked limit question (is_synthesized (origin_of walk)) (octets_within limit question now walk) ≡ octets = ap (λ (o : Origin). marked limit question (is_synthesized o) (octets_within limit question now walk)) made ∙ ap (marked limit question (is_synthesized origin)) same ∙ sym mark in
      (λ i. Some (found_as (mark' i) (made i)))

  shown_none : (walk : Option Walk) → None ≡ option_map origin_of walk → option_map (shown limit question now) walk ≡ None
  shown_none None from = refl
  shown_none (Some walk) from = absurd (cc from)

  module _ (seen : List Batch) (held : Held) (kept : held ≡ kept_of seen) where
    pub reply_found : (origin : Origin) (reply octets : List ℕ) → walk_reply_within limit Both held question now ≡ Some reply → Some origin ≡ origin_in Both held question now → octets ≡ marked limit question (is_synthesized origin) reply → found_within limit seen question now ≡ Some (found_as octets origin)
    reply_found origin reply octets is from mark =
        let same = walk_as_held Both seen held question now kept in
        shown_of (walk_in Both (held_of seen) question now) origin reply octets
        (sym (ap (option_map (octets_within limit question now)) same) ∙ is) (from ∙ ap (option_map origin_of) same) mark

    pub none_found : None ≡ origin_in Both held question now → found_within limit seen question now ≡ None
    none_found from = shown_none (walk_in Both (held_of seen) question now) (from ∙ ap (option_map origin_of) (walk_as_held Both seen held question now kept))
