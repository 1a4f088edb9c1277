use Rattle.std.proofs.Common.{arith}
use Rattle.dnswire.proofs.ExpansionLemmas.{closed_whole, whole_behind}
use Rattle.dnswire.proofs.name_read.whole_at.Goals as goal

pub returns-in_default-clause-read : goal.returns-in_default-clause-read
returns-in_default-clause-read c =
    let run = c.in_ok-run.ensures in
    let ends = rw c.in_default.is at run.read.ends in
    closed_whole _ _ _ run.labels.0 run.labels.1 ends run.room

pub returns-in-None-clause-read : goal.returns-in-None-clause-read
returns-in-None-clause-read c =
    let run = c.in_ok-run.ensures in
    let near = c.in_ok-last.ensures in
    let points = rw c.in-Some.is at run.read.ends in
    let ends = rw c.in-None.is at near.read.ends in
    whole_behind _ _ _ _ _ _ (omega (arith, c.if-run-gt0.false)) points.0 points.1 (closed_whole _ _ _ near.labels.0 near.labels.1 ends (omega (arith, near.room)))
