use Rattle.std.proofs.Common.{◌≡◌, ◌<◌, [], ◌∷◌, ◌++◌, length, refl, sym, ◌∙◌, subst, arith, inl}
use Rattle.std.specs.Option.{option_to_list}
use Rattle.std.proofs.lemmas.Bool.{false≢true}
use Rattle.command_line.specs.Options.{IsDraft}
use Rattle.command_line.specs.Words.{AreSet, IsPlaceText, texts_of}
use Rattle.command_line.specs.declared.flag.Flag.TheVariants.{Listen, Upstream}
use Rattle.command_line.proofs.DraftLemmas.{listens_more, none_is, one_is, placed}
use Rattle.command_line.proofs.SpelledLemmas.{spelled_length}
use Rattle.command_line.proofs.drafting.Draft.listen.Goals as goal

pub returns-then-len-eq-MAX_LISTENS : goal.returns-then-len-eq-MAX_LISTENS
returns-then-len-eq-MAX_LISTENS c = λ choices set.
    let many = spelled_length IsPlaceText (texts_of Listen choices) c.args.self.now.listens set.listens in
    (refl, omega (arith, many))

pub returns-in-Err : goal.returns-in-Err
returns-in-Err c = λ choices set. c.in-Err.ensures.told choices Listen refl

pub returns-then-has_place : goal.returns-then-has_place
returns-then-has_place c = λ choices set.
    (refl, (c.in-Ok.place, c.in-Ok.ensures.read.written, placed choices Listen c.args.self.now.listens c.in-Ok.place set.listens (c.has_place.ensures.0 c.if-has_place.true)))

pub returns-then-is_place : goal.returns-then-is_place
returns-then-is_place c = λ choices set.
    let among = one_is c.args.self.now.upstream c.in-Ok.place (c.is_place.ensures.0 c.if-is_place.true) in
    (Upstream, inl (refl, refl), (c.in-Ok.place, c.in-Ok.ensures.read.written, placed choices Upstream (option_to_list c.args.self.now.upstream) c.in-Ok.place set.asks among))

pub returns : goal.returns
returns c = λ choices set.
    let old = c.args.self.now in
    let room : length old.listens < 8 = omega (arith, set.few) in
    subst (λ places. AreSet (choices ++ (Listen, c.args.text.now) ∷ []) places (option_to_list old.upstream) (option_to_list old.workers) old.passes (option_to_list old.status))
    (sym c.in_ok-push.ensures.ok)
    (listens_more choices c.args.text.now c.in-Ok.place old.listens (option_to_list old.upstream) (option_to_list old.workers) old.passes (option_to_list old.status)
    c.in-Ok.ensures.read room (λ among. false≢true (sym c.if-has_place.false ∙ c.has_place.ensures.1 among))
    (none_is old.upstream c.in-Ok.place (λ same. false≢true (sym c.if-is_place.false ∙ c.is_place.ensures.1 same))) set)
