use Rattle.std.proofs.Common.{sym, ap, ◌∙◌}
use Rattle.serving.specs.Pending.{table_at}
use Rattle.serving.proofs.LatestLemmas.{kept-slots_of}
use Rattle.serving.proofs.worker_core.WorkerCore.free_late.Goals as goal

pub returns : goal.returns
returns c =
    let fields = c.self.inside in
    kept-slots_of c.args.now fields.taken fields.sent c.keep.new.taken fields.latest.items (c.keep.ensures.size ∙ sym c.self.invariant.marks) c.keep.ensures.kept ∙ ap (table_at c.args.now) c.self.view_is

pub invariant_of-self : goal.invariant_of-self
invariant_of-self c = record {
  marks = c.keep.ensures.size;
  moments = c.self.invariant.moments;
  entries = c.self.invariant.entries;
}
