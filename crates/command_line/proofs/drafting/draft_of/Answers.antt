use Rattle.std.proofs.Common.{◌+◌, drop, map, take}
use Rattle.command_line.specs.Options.{choice_of}
use Rattle.command_line.proofs.ForwardLemmas.{cut_at, right}
use Rattle.command_line.proofs.drafting.draft_of.Goals as goal

pub returns-in-Ok-Some-clause-told : goal.returns-in-Ok-Some-clause-told
returns-in-Ok-Some-clause-told c =
    let chosen = c.args.choices.now in
    let i = c.loop-choice.choice-index in
    let before = map choice_of (take i chosen) in
    let told = rw c.in-Ok-Some.field-0-is at c.in-Ok-Some.ensures in (
      before,
      map choice_of (drop (i + 1) chosen),
      cut_at chosen i _ c.loop-choice-test.true,
      right before c.loop-choice.draft c.loop-choice.invariant,
      told before c.loop-choice.invariant,
    )
