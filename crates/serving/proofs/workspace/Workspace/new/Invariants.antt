use Rattle.std.proofs.Common.{◌≡◌, length}
use Rattle.serving.proofs.workspace.Workspace.new.Given as goal

abbrev pub invariant-loop : goal.invariant-loop
invariant-loop l = (length l.datagrams.items ≡ l.counter) × (length l.answers.items ≡ l.counter)
