use Rattle.std.proofs.Common.{◌∙◌, refl, sym, ap}
use Rattle.std.specs.Prelude.{min}
use Rattle.denial_records.specs.TimeLeft.{time_left}
use Rattle.cache_meaning.specs.Held.{Held}
use Rattle.cache_meaning.specs.Evidence.{usable_set}
use Rattle.cache_meaning.specs.Prove.{proof_of}
use Rattle.cache_meaning.specs.Zones.{zone_for}
use Rattle.dname.specs.NameData.{one_name_in}
use Rattle.dname.specs.declared.types.TheConstants.{CNAME_TYPE}
use Rattle.resolver.proofs.WalkReplyLemmas.{alias_replies}
use Rattle.resolver.proofs.StepLemmas.{zone_is}
use Rattle.resolver.proofs.WalkLemmas.{shown}
use Rattle.resolver.proofs.walk_replying.reply_by_alias.Goals as goal

pub returns-clause-done : goal.returns-clause-done
returns-clause-done g c = λ yes.
    let held = c.args.store.now in
    let question = c.args.question.now in
    let zone = c.args.zone.now in
    let same = zone_is held question.name question.qtype zone c.requires.zone in
    let proved = shown c.args.now (proof_of held c.args.now c.in-Some-found.target question.qtype) c.in-Some-prove.verdict c.in-Some-prove.ensures.proved (c.in-Some-prove.ensures.exact.0 refl) in
    alias_replies c.args.limit held c.args.now question zone.apex c.in-Some-found.target c.in-Some.set.now c.in-Some-prove.verdict c.uses_denials.result c.write_alias_reply_within.new.out c.min-ttl.result
    c.if-question-eq-DS_TYPE.false
    (ap (λ (h : Held). zone_for h question.name question.qtype) (sym same.0) ∙ same.1)
    (c.in-Some.ensures ∙ ap (λ (h : Held). usable_set h c.args.now zone.apex question.name CNAME_TYPE) same.0)
    (sym c.in-Some-found.is ∙ c.one_name_in-found.ensures ∙ ap one_name_in c.items.ensures)
    proved
    (c.min-ttl.ensures ∙ ap (min c.in-Some-prove.verdict.ttl) (c.remaining.ensures.value ∙ (λ i. time_left (c.life.ensures i) (c.expiry.ensures i) c.args.now)))
    c.uses_denials.ensures
    c.write_alias_reply_within.ensures.value
