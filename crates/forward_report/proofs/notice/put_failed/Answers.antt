use Rattle.std.proofs.Common.{◌++◌, ◌∙◌, ap}
use Rattle.std.specs.Prelude.{codes, decimal, string_bytes}
use Rattle.forward_report.proofs.PutLemmas.{regrouped}
use Rattle.forward_report.proofs.notice.put_failed.Goals as goal

pub returns : goal.returns
returns c =
    c.in_ok-writeln.ensures.bytes
    ∙ ap (λ text. string_bytes c.args.text.now ++ text) (regrouped (codes "dnsreplay: ") c.args.failed.now (codes " in the last minute: ") (decimal c.args.count) (codes ", the last for: ") c.args.cause.now (codes "\n"))
