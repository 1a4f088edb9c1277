use Rattle.std.proofs.Common.{map, take}
use Rattle.command_line.specs.Options.{IsDraft, choice_of}
use Rattle.command_line.proofs.drafting.draft_of.Given as goal

abbrev pub invariant-loop-choice : goal.invariant-loop-choice
invariant-loop-choice l = IsDraft (map choice_of (take l.choice-index l.choices)) l.draft
