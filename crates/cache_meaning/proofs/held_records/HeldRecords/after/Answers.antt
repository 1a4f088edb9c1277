use Rattle.std.proofs.Common.{drop, fold, sym, ap, ◌∙◌, ◌+◌, List}
use Rattle.denial_records.specs.declared.record.Record.{Record}
use Rattle.cache_meaning.specs.Held.{held_with}
use Rattle.cache_meaning.proofs.HeldLemmas.{drop_here}
use Rattle.cache_meaning.proofs.held_records.HeldRecords.after.Goals as goal

pub loop-i-preserved : goal.loop-i-preserved
loop-i-preserved c = record {
  held = (λ k. fold held_with (c.in_ok-put.ensures k) (drop (c.loop-i.i + 1) c.args.batch.now.records))
      ∙ ap (λ (l : List Record). fold held_with c.loop-i.held l) (sym (drop_here c.args.batch.now.records c.loop-i.i c.get.result.now c.get.ensures))
      ∙ c.loop-i.invariant.held;
  end = c.loop-i.invariant.end;
}
