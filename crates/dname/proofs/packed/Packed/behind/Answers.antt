use Rattle.std.proofs.Common.{drop, ◌∙◌, ap}
use Rattle.std.proofs.lemmas.List.{drop-drop}
use Rattle.dname.proofs.packed.Packed.behind.Goals as goal

pub loop-preserved : goal.loop-preserved
loop-preserved c = c.next.ensures.rest ∙ ap (drop 1) c.loop.invariant ∙ drop-drop 1 c.loop.counter c.args.self.now
