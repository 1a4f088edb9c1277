use Rattle.std.proofs.Common.{◌∙◌, ap, length, arith}
use Rattle.std.proofs.lemmas.List.{length-drop}
use Rattle.outside_core.proofs.ToldLemmas.{append_told-step}
use Rattle.outside_core.proofs.writing.write_whole.Goals as goal

pub loop-at-preserved : goal.loop-at-preserved
loop-at-preserved g c = record {
  within = omega (arith, c.in-Ok.ensures.within, ap length c.rest_of.ensures, length-drop c.loop-at.at c.args.octets.now);
  written = append_told-step _ _ _ c.loop-at.at c.in-Ok.count c.args.octets.now c.loop-at.invariant.written (rw c.rest_of.ensures at c.in-Ok.ensures.written);
  faults = c.in-Ok.ensures.cause ∙ c.loop-at.invariant.faults;
}
