use Rattle.std.proofs.Common.{drop, map, sym, subst}
use Rattle.command_line.specs.Words.{AreOptions, texts}
use Rattle.command_line.specs.Options.{choice_of}
use Rattle.command_line.proofs.ChoiceLemmas.{chosen_more}
use Rattle.command_line.proofs.choosing.choices_of.Goals as goal

pub loop-at-preserved : goal.loop-at-preserved
loop-at-preserved c = (
  c.in-Ok.ensures.on.1,
  let words = texts c.args.words.now in
      subst (λ items. AreOptions (map choice_of items) (drop c.in-Ok.found.1 words) words) (sym c.in-Ok-push.ensures.items)
      (chosen_more c.loop-at.choices.items c.in-Ok.found.0 (drop c.loop-at.at words) (drop c.in-Ok.found.1 words) words c.loop-at.invariant.1 c.in-Ok.ensures.read),
)
