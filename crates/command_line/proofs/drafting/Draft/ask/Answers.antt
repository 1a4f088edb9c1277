use Rattle.std.proofs.Common.{◌≡◌, refl, sym, ◌∙◌, subst, inr, rules}
use Rattle.std.specs.Option.{option_to_list}
use Rattle.std.proofs.lemmas.Bool.{false≢true}
use Rattle.command_line.specs.Words.{AreSet}
use Rattle.command_line.specs.declared.flag.Flag.TheVariants.{Listen, Upstream}
use Rattle.command_line.proofs.DraftLemmas.{asks_one, none_before, placed}
use Rattle.command_line.proofs.drafting.Draft.ask.Goals as goal

pub returns-in-Err : goal.returns-in-Err
returns-in-Err c = λ choices set. c.in-Err.ensures.told choices Upstream refl

pub returns-then-has_place : goal.returns-then-has_place
returns-then-has_place c = λ choices set.
    (Listen, inr (refl, refl), (c.in-Ok.place, c.in-Ok.ensures.read.written, placed choices Listen c.args.self.now.listens c.in-Ok.place set.listens (c.has_place.ensures.0 c.if-has_place.true)))

pub returns : goal.returns
returns c = λ choices set.
    let old = c.args.self.now in
    let none = none_before old.upstream (search rules) in
    asks_one choices c.args.text.now c.in-Ok.place old.listens (option_to_list old.workers) old.passes (option_to_list old.status)
    c.in-Ok.ensures.read (λ among. false≢true (sym c.if-has_place.false ∙ c.has_place.ensures.1 among))
    (subst (λ servers. AreSet choices old.listens servers (option_to_list old.workers) old.passes (option_to_list old.status)) none set)
