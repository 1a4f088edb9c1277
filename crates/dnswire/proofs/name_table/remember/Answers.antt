use Rattle.std.proofs.Common.{◌∙◌, arith}
use Rattle.dnswire.proofs.ExpansionLemmas.{kept_after, keeps_place}
use Rattle.dnswire.proofs.name_table.remember.Goals as goal

pub run_by-requires-clause-sizes : goal.run_by-requires-clause-sizes
run_by-requires-clause-sizes c =
    let inv = c.loop-start.invariant in
    (keeps_place c.args.message.now c.loop-start.table c.keep.new.self c.loop-start.start c.loop-start.extent c.keep.ensures.octets c.keep.ensures.extents c.keep.ensures.runs inv.table (omega (arith, c.loop-start-test.true, c.len.ensures)) inv.kept).runs

pub returns-then-start-last_run-clause-table : goal.returns-then-start-last_run-clause-table
returns-then-start-last_run-clause-table c =
    let inv = c.loop-start.invariant in
    keeps_place c.args.message.now c.loop-start.table c.keep.new.self c.loop-start.start c.loop-start.extent c.keep.ensures.octets c.keep.ensures.extents c.keep.ensures.runs inv.table (omega (arith, c.loop-start-test.true, c.len.ensures)) inv.kept

pub loop-start-preserved : goal.loop-start-preserved
loop-start-preserved c =
    let inv = c.loop-start.invariant in
    let ends = rw c.in-Some-next.is at c.in-Some.ensures.read.ends in
    let run = c.in-Some.ensures.labels in
    let same = c.keep.ensures.octets in
    let kept = (keeps_place c.args.message.now c.loop-start.table c.keep.new.self c.loop-start.start c.loop-start.extent c.keep.ensures.octets c.keep.ensures.extents c.keep.ensures.runs inv.table (omega (arith, c.loop-start-test.true, c.len.ensures)) inv.kept).kept in
    record {
      kept = kept_after c.args.message.now c.loop-start.table.octets.items c.keep.new.self.octets.items c.loop-start.start c.in-Some.run'.size c.in-Some-next.next c.loop-start.extent run.0 same inv.kept run.1 (omega (arith, c.in-Some.ensures.room)) ends.0;
      small = omega (arith, inv.small);
      octets = same ∙ inv.octets;
      table = record { kept = kept; runs = c.run_by.ensures.sizes };
    }
