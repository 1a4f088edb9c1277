use Rattle.std.proofs.Common.{sym, ap, ◌∙◌}
use Rattle.serving.specs.Pending.{least_free}
use Rattle.serving.proofs.LatestLemmas.{least_free-slots_of}
use Rattle.serving.proofs.worker_core.WorkerCore.least_free.Goals as goal

pub returns-clause-place : goal.returns-clause-place
returns-clause-place c =
    let fields = c.self.inside in
    let all = c.self.invariant in
    c.first_free.ensures.place ∙ sym (ap least_free (sym c.self.view_is) ∙ least_free-slots_of fields.taken fields.sent fields.latest.items (all.moments ∙ sym all.marks) (all.entries ∙ sym all.marks))
