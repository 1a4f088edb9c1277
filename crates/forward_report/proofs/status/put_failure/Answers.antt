use Rattle.std.proofs.Common.{◌++◌, ◌∙◌}
use Rattle.std.specs.Prelude.{codes, string_bytes}
use Rattle.forward_report.specs.Status.{line}
use Rattle.forward_report.proofs.status.put_failure.Goals as goal

pub returns : goal.returns
returns c =
    c.in_ok-put_line.ensures
    ∙ (λ i. string_bytes c.args.text.now ++ line (codes "dnsreplay_faults_total") (c.call_case.ensures i) c.args.worker (c.of.ensures i))
