use Rattle.std.proofs.Common.{◌≡◌, refl, sym, ◌∙◌, ap}
use Rattle.std.proofs.lemmas.Bool.{false≢true}
use Rattle.std.specs.Prelude.{None, Option}
use Rattle.denial_records.specs.Proof.{Proof}
use Rattle.cache_meaning.specs.Prove.{zone_proof, proof_of}
use Rattle.cache_meaning.specs.Zones.{zone_for}
use Rattle.resolver.specs.Walk.{links_of, beyond, where_none, walk_of}
use Rattle.resolver.specs.declared.rule.Rule.TheVariants.{Redirection}
use Rattle.resolver.proofs.StepLemmas.{no_zone}
use Rattle.resolver.proofs.WalkLemmas.{shown, none_shown, proved_in, nowhere_redirected, beyond_walk, sound_if_some}
use Rattle.resolver.proofs.walking.synthesise.Goals as goal

pub returns-in_err-zone-clause-walk : goal.returns-in_err-zone-clause-walk
returns-in_err-zone-clause-walk c =
    let held = c.args.store.now in
    rw c.from_residual.ensures (sym (nowhere_redirected held c.args.now c.args.qtype c.args.name.now (no_zone held (zone_for held c.args.name.now c.args.qtype) c.in_err-zone.ensures)))

pub returns-in-Some-clause-walk : goal.returns-in-Some-clause-walk
returns-in-Some-clause-walk c =
    let held = c.args.store.now in
    let zone = c.in_ok-zone.zone in
    let proved = shown c.args.now (zone_proof zone.held c.args.now zone.apex c.args.name.now c.args.qtype) c.in-Some._verdict c.in-Some.ensures.proved (c.in-Some.ensures.exact.0 refl) in
    ap (λ (found : Option Proof). where_none found (beyond (links_of Redirection) Redirection held c.args.now c.args.qtype c.args.name.now))
    (sym proved.proved ∙ proved_in held c.args.now c.args.qtype c.args.name.now zone c.in_ok-zone.ensures)

pub returns-clause-walk : goal.returns-clause-walk
returns-clause-walk c =
    let held = c.args.store.now in
    let zone = c.in_ok-zone.zone in
    let none = none_shown (zone_proof zone.held c.args.now zone.apex c.args.name.now c.args.qtype) (λ some. false≢true (c.in_default.ensures.exact.1 some)) in
    c.beyond.ensures.walk
    ∙ ap (λ (found : Option Proof). where_none found (beyond (links_of Redirection) Redirection held c.args.now c.args.qtype c.args.name.now))
    (sym none ∙ proved_in held c.args.now c.args.qtype c.args.name.now zone c.in_ok-zone.ensures)

pub returns-clause-sound : goal.returns-clause-sound
returns-clause-sound c = λ ordinary.
    let held = c.args.store.now in
    let zone = c.in_ok-zone.zone in
    let none = none_shown (zone_proof zone.held c.args.now zone.apex c.args.name.now c.args.qtype) (λ some. false≢true (c.in_default.ensures.exact.1 some)) in
    let unproved : proof_of held c.args.now c.args.name.now c.args.qtype ≡ None = sym (proved_in held c.args.now c.args.qtype c.args.name.now zone c.in_ok-zone.ensures) ∙ none in
    sound_if_some c.args.qtype c.args.name.now (walk_of Redirection held c.args.now c.args.name.now c.args.qtype) c.beyond.result
    (λ walk is. c.each_walk_is_sound.ensures Redirection held c.args.now c.args.name.now c.args.qtype walk ordinary is)
    (c.beyond.ensures.walk ∙ beyond_walk Redirection held c.args.now c.args.qtype c.args.name.now unproved)
