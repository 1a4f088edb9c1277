use Rattle.std.proofs.Common.{◌∙◌, ap, length, arith}
use Rattle.std.specs.Cmp.Lexicographic.{pointwise}
use Rattle.std.specs.Prelude.{nat_eq}
use Rattle.dname.specs.Name.{wire_of}
use Rattle.dname.proofs.WireLemmas.{same_name}
use Rattle.dname.proofs.MeetLemmas.{loses_first, loses_all}
use Rattle.dname.proofs.labels.ends_in.Goals as goal

pub loop-name-preserved : goal.loop-name-preserved
loop-name-preserved c =
    loses_first _ _ _ _ _ c.loop-name.invariant c.take_first.ensures (omega (arith, ap length c.wire.ensures.spelled, ap length c.wire-in-loop-name.ensures.spelled))

pub returns : goal.returns
returns c =
    let is = c.octets_eq.ensures ∙ ap (λ l. pointwise nat_eq l c.wire-3.result.now) c.wire-2.ensures.spelled ∙ ap (pointwise nat_eq (wire_of c.loop-name.name)) c.wire-3.ensures.spelled in
    loses_all _ _ _ _ c.loop-name.invariant (omega (arith, ap length c.wire.ensures.spelled, ap length c.wire-in-loop-name.ensures.spelled, c.loop-name-test.false))
    (same_name c.loop-name.name c.args.other c.octets_eq.result c.wire-2.ensures.name c.wire-3.ensures.name is)
