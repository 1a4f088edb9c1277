use Rattle.forward_report.specs.Start.{addresses_text, upstream_text, version_text}
use Rattle.forward_report.proofs.PutLemmas.{three_put}
use Rattle.forward_report.proofs.start.put_start.Goals as goal

pub returns : goal.returns
returns c =
    three_put (version_text c.args.version.now) (addresses_text c.args.listening.now) (upstream_text c.args.upstream c.args.workers) _ _ _ _
    c.in_ok-put_version.ensures c.in_ok-put_addresses.ensures c.in_ok-put_upstream.ensures
