use Rattle.std.proofs.Common.{length, ◌-◌, ◌≤◌, drop, map}
use Rattle.command_line.specs.Words.{AreOptions, texts}
use Rattle.command_line.specs.Options.{choice_of}
use Rattle.command_line.proofs.choosing.choices_of.Given as goal

abbrev pub invariant-loop-at : goal.invariant-loop-at
invariant-loop-at l = (l.at ≤ length l.words) × AreOptions (map choice_of l.choices.items) (drop l.at (texts l.words)) (texts l.words)

abbrev pub decreases-loop-at : goal.decreases-loop-at
decreases-loop-at l = length l.words - l.at
