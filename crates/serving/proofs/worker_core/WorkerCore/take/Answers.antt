use Rattle.std.proofs.Common.{ap, ◌∙◌, ◌%◌, ◌+◌, arith}
use Rattle.serving.specs.declared.latest.Latest.{Latest}
use Rattle.serving.proofs.LatestLemmas.{takes}
use Rattle.serving.proofs.worker_core.WorkerCore.take.Goals as goal

pub returns-clause-turn : goal.returns-clause-turn
returns-clause-turn c =
    let old = c.self.inside in
    let renewed = c.renew.ensures in
    c.renew.ensures.given ∙ (takes old.taken old.sent old.latest.items c.args.self.now c.args.slot c.index_mut.result.now c.renew.new.self c.args.client c.args.question.now c.args.now c.self.view_is (omega (arith, c.self.told)) (omega (arith, c.self.told, c.self.invariant.entries)) c.requires.free (renewed.turn ∙ ap (λ (l : Latest). (l.turn + 1) % 256) c.index_mut.ensures.value) renewed.client renewed.question).0

pub returns-clause-table : goal.returns-clause-table
returns-clause-table c =
    let old = c.self.inside in
    let renewed = c.renew.ensures in
    (takes old.taken old.sent old.latest.items c.args.self.now c.args.slot c.index_mut.result.now c.renew.new.self c.args.client c.args.question.now c.args.now c.self.view_is (omega (arith, c.self.told)) (omega (arith, c.self.told, c.self.invariant.entries)) c.requires.free (renewed.turn ∙ ap (λ (l : Latest). (l.turn + 1) % 256) c.index_mut.ensures.value) renewed.client renewed.question).1
