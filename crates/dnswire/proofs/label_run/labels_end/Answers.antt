use Rattle.std.proofs.Common.{length, ap, [], arith}
use Rattle.std.proofs.Math.Seq.{drop-cons}
use Rattle.std.proofs.lemmas.List.{length-drop}
use Rattle.dnswire.proofs.RunLemmas.{passed_none, passed_label, passed_over_limit}
use Rattle.dnswire.proofs.ExpansionLemmas.{stand_none, stand_label}
use Rattle.dnswire.proofs.label_run.labels_end.Goals as goal

pub loop-here-init : goal.loop-here-init
loop-here-init c = record { passed = passed_none _ _; labels = λ _. ([], stand_none _ _) }

pub loop-here-preserved : goal.loop-here-preserved
loop-here-preserved c =
    let within = c.loop-here-test.true in
    let stands = drop-cons c.args.message.now c.loop-here.here 0 (omega arith) in
    record {
      passed = passed_label _ _ c.loop-here.here _ _ _ c.loop-here.invariant.passed stands (omega (arith, c.from-size.ensures)) (omega arith) (omega arith);
      labels = λ whole.
          let before = c.loop-here.invariant.labels (omega arith) in
          stand_label _ _ c.loop-here.here _ _ _ before.0 before.1 stands (omega (arith, c.from-size.ensures)) (omega arith) (omega arith)
          (omega (arith, whole, ap length stands, length-drop c.loop-here.here c.args.message.now));
    }

pub returns-then-size-eq0-clause-labels : goal.returns-then-size-eq0-clause-labels
returns-then-size-eq0-clause-labels c = c.loop-here.invariant.labels (omega arith)

pub returns-clause-none : goal.returns-clause-none
returns-clause-none c start end labels reads =
    passed_over_limit _ _ c.loop-here.here _ start end labels c.loop-here.invariant.passed (omega (arith, c.loop-here-test.false)) reads
