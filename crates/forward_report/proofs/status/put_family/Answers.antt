use Rattle.std.proofs.Common.{◌++◌, ◌∙◌, ap}
use Rattle.std.specs.Prelude.{string_bytes}
use Rattle.forward_report.specs.declared.status.Kind.TheVariants.{Counts}
use Rattle.forward_report.specs.Status.{counts_text, head, help_of, name_of}
use Rattle.forward_report.proofs.PutLemmas.{put_all_below, put_more_by_place}
use Rattle.forward_report.proofs.status.put_family.Goals as goal

pub loop-worker-preserved : goal.loop-worker-preserved
loop-worker-preserved c =
    put_more_by_place (λ worker report. counts_text c.args.family worker report.counts) c.args.workers.now _ _ _ _ _ c.loop-worker-test.true c.index-workers-worker.is c.loop-worker.invariant c.in_ok-put_counts.ensures

pub returns : goal.returns
returns c =
    put_all_below (λ worker report. counts_text c.args.family worker report.counts) c.args.workers.now _ (head (name_of c.args.family) (help_of c.args.family) Counts) _ _ _ c.loop-worker-test.false
    (c.in_ok-put_head.ensures ∙ ap (λ name. string_bytes c.args.text.now ++ head name c.help.result.now Counts) c.name.ensures ∙ ap (λ help. string_bytes c.args.text.now ++ head (name_of c.args.family) help Counts) c.help.ensures)
    c.loop-worker.invariant
