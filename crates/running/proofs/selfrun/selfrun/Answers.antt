use Rattle.std.proofs.Common.{[], sym, subst}
use Rattle.std.specs.String.{string_bytes}
use Rattle.std.proofs.lemmas.Result.{IfOk-weaker}
use Rattle.replay_meaning.specs.Frame.{inputs_spelling}
use Rattle.replay_meaning.specs.Replay.{IsReplay}
use Rattle.worker_seats.specs.Cuts.{Part}
use Rattle.running.specs.Made.{made_inputs}
use Rattle.running.proofs.MadeLemmas.{made_summary}
use Rattle.running.proofs.selfrun.selfrun.Goals as goal

pub returns : goal.returns
returns g c =
    let none : Part = record { octets = []; cuts = [] } in
    IfOk-weaker c.summary.result _ _ (λ text lines. made_summary c.args.seed c.args.names c.args.queries c.of_worker.result.now (string_bytes text) (subst (IsReplay 1 (inputs_spelling (made_inputs c.args.seed c.args.names c.args.queries))) (sym (c.of_worker.ensures none)) (c.in_ok-outputs.ensures.replay none)) lines) c.summary.ensures
