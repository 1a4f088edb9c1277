use Rattle.std.proofs.Common.{◌-◌, [], ◌∷◌, ◌++◌, length, refl, ◌∙◌, ap, arith}
use Rattle.std.proofs.lemmas.Bool.{false≢true}
use Rattle.cache_meaning.specs.Prove.{proof_of}
use Rattle.resolver.proofs.WalkLemmas.{shown, none_shown, gone_out, by_none, by_end, by_more, by_last, gone_first, whole_is}
use Rattle.resolver.proofs.walking.behind.Goals as goal

pub loop-init : goal.loop-init
loop-init c = record {
  few = ap length c.push.ensures.items ∙ ap (λ them. length (them ++ c.args.way ∷ [])) c.new-links.ensures;
  gone = gone_first c.args.rule c.args.store.now c.args.now c.args.qtype c.args.name.now _ c.push.new.self.items c.args.way c.args.target
      (c.push.ensures.items ∙ ap (λ them. them ++ c.args.way ∷ []) c.new-links.ensures) c.requires.leads c.requires.ttl;
}

pub loop-preserved : goal.loop-preserved
loop-preserved c =
    let more = by_more c.args.rule c.args.store.now c.args.now c.args.qtype c.args.name.now _ c.links-most.result c.loop.counter c.loop.links.items c.loop.here c.loop-test.true c.loop.invariant.gone
    c.in_ok-end.field-0 c.in_ok-end.ensures.step c.in_ok-end.ensures.leads c.in_ok-end.ensures.ttl
    c.in-Onto.way c.in-Onto.target c.push-in-Onto.new.self.items c.in-Onto.is c.push-in-Onto.ensures.items c.loop.invariant.few in
    record { few = more.0; gone = more.1 }

pub returns-in_err-end-clause-walk : goal.returns-in_err-end-clause-walk
returns-in_err-end-clause-walk c = λ links some. rw c.from_residual.ensures
    (by_none c.args.rule c.args.store.now c.args.now c.args.qtype c.args.name.now _ c.links-most.result c.loop.counter c.loop.links.items c.loop.here c.loop-test.true c.loop.invariant.gone c.in_err-end.ensures.step
    ∙ whole_is c.args.rule c.args.store.now c.args.now c.args.qtype c.args.name.now c.args.way c.args.target c.push.new.self.items c.links-most.result links
    (c.push.ensures.items ∙ ap (λ them. them ++ c.args.way ∷ []) c.new-links.ensures) c.requires.leads c.links-most.ensures.value some)

pub returns-in-Ends-clause-walk : goal.returns-in-Ends-clause-walk
returns-in-Ends-clause-walk c = λ links some.
    (by_end c.args.rule c.args.store.now c.args.now c.args.qtype c.args.name.now _ c.links-most.result c.loop.counter c.loop.links.items c.loop.here c.loop-test.true c.loop.invariant.gone
    c.in_ok-end.field-0 c.in_ok-end.ensures.step c.in_ok-end.ensures.leads c.in_ok-end.ensures.ttl
    c.in-Ends.end c.ended.result c.in-Ends.is c.ended.ensures.name c.ended.ensures.links c.ended.ensures.last c.ended.ensures.end c.ended.ensures.ttl).is
    ∙ whole_is c.args.rule c.args.store.now c.args.now c.args.qtype c.args.name.now c.args.way c.args.target c.push.new.self.items c.links-most.result links
    (c.push.ensures.items ∙ ap (λ them. them ++ c.args.way ∷ []) c.new-links.ensures) c.requires.leads c.links-most.ensures.value some

pub returns-in-Ends-clause-ttl : goal.returns-in-Ends-clause-ttl
returns-in-Ends-clause-ttl c =
    (by_end c.args.rule c.args.store.now c.args.now c.args.qtype c.args.name.now _ c.links-most.result c.loop.counter c.loop.links.items c.loop.here c.loop-test.true c.loop.invariant.gone
    c.in_ok-end.field-0 c.in_ok-end.ensures.step c.in_ok-end.ensures.leads c.in_ok-end.ensures.ttl
    c.in-Ends.end c.ended.result c.in-Ends.is c.ended.ensures.name c.ended.ensures.links c.ended.ensures.last c.ended.ensures.end c.ended.ensures.ttl).lives

pub returns-in_err-verdict-clause-walk : goal.returns-in_err-verdict-clause-walk
returns-in_err-verdict-clause-walk c = λ links some.
    let none = none_shown (proof_of c.args.store.now c.args.now c.loop.here c.args.qtype) (λ some. false≢true (c.in_err-verdict.ensures.exact.1 some)) in
    rw c.from_residual-in_err-verdict.ensures (gone_out c.args.rule c.args.store.now c.args.now c.args.qtype c.args.name.now _ (c.links-most.result - c.loop.counter) c.loop.links.items c.loop.here c.loop.invariant.gone (omega (arith, c.loop-test.false)) none
    ∙ whole_is c.args.rule c.args.store.now c.args.now c.args.qtype c.args.name.now c.args.way c.args.target c.push.new.self.items c.links-most.result links
    (c.push.ensures.items ∙ ap (λ them. them ++ c.args.way ∷ []) c.new-links.ensures) c.requires.leads c.links-most.ensures.value some)

pub returns-clause-walk : goal.returns-clause-walk
returns-clause-walk c = λ links some.
    let verdict = c.in_ok-verdict.verdict in
    let proved = shown c.args.now (proof_of c.args.store.now c.args.now c.loop.here c.args.qtype) verdict c.in_ok-verdict.ensures.proved (c.in_ok-verdict.ensures.exact.0 refl) in
    (by_last c.args.rule c.args.store.now c.args.now c.args.qtype c.args.name.now _ (c.links-most.result - c.loop.counter) c.loop.links.items c.loop.here verdict c.ended-2.result (omega (arith, c.loop-test.false)) c.loop.invariant.gone proved
    c.ended-2.ensures.name c.ended-2.ensures.links c.ended-2.ensures.last c.ended-2.ensures.end c.ended-2.ensures.ttl).is
    ∙ whole_is c.args.rule c.args.store.now c.args.now c.args.qtype c.args.name.now c.args.way c.args.target c.push.new.self.items c.links-most.result links
    (c.push.ensures.items ∙ ap (λ them. them ++ c.args.way ∷ []) c.new-links.ensures) c.requires.leads c.links-most.ensures.value some

pub returns-clause-ttl : goal.returns-clause-ttl
returns-clause-ttl c =
    let verdict = c.in_ok-verdict.verdict in
    let proved = shown c.args.now (proof_of c.args.store.now c.args.now c.loop.here c.args.qtype) verdict c.in_ok-verdict.ensures.proved (c.in_ok-verdict.ensures.exact.0 refl) in
    (by_last c.args.rule c.args.store.now c.args.now c.args.qtype c.args.name.now _ (c.links-most.result - c.loop.counter) c.loop.links.items c.loop.here verdict c.ended-2.result (omega (arith, c.loop-test.false)) c.loop.invariant.gone proved
    c.ended-2.ensures.name c.ended-2.ensures.links c.ended-2.ensures.last c.ended-2.ensures.end c.ended-2.ensures.ttl).lives
