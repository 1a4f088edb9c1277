use Rattle.std.proofs.Common.{◌<◌, [], ◌∷◌, ◌++◌, length, sym, subst, arith, refl}
use Rattle.std.specs.Option.{option_to_list}
use Rattle.command_line.specs.Words.{AreSet, IsNameText, texts_of}
use Rattle.command_line.specs.declared.flag.Flag.TheVariants.{Pass}
use Rattle.command_line.proofs.DraftLemmas.{passes_more}
use Rattle.command_line.proofs.SpelledLemmas.{spelled_length}
use Rattle.command_line.proofs.drafting.Draft.pass.Goals as goal

pub returns-then-len-eq-MAX_PASSES : goal.returns-then-len-eq-MAX_PASSES
returns-then-len-eq-MAX_PASSES c = λ choices set.
    let many = spelled_length IsNameText (texts_of Pass choices) c.args.self.now.passes set.passes in
    (refl, omega (arith, many))

pub returns : goal.returns
returns c = λ choices set.
    let old = c.args.self.now in
    let room : length old.passes < 16 = omega (arith, set.few_passes) in
    subst (λ names. AreSet (choices ++ (Pass, c.args.text.now) ∷ []) old.listens (option_to_list old.upstream) (option_to_list old.workers) names (option_to_list old.status))
    (sym c.in_ok-push.ensures.ok)
    (passes_more choices c.args.text.now c.in-Some.name old.listens (option_to_list old.upstream) (option_to_list old.workers) old.passes (option_to_list old.status) c.in-Some.ensures.read room set)
