use Rattle.std.specs.Prelude.{codes}
use Rattle.forward_report.specs.Status.{held_text, single}
use Rattle.forward_report.specs.declared.status.Kind.TheVariants.{Counts}
use Rattle.forward_report.proofs.PutLemmas.{two_put}
use Rattle.forward_report.proofs.status.put_cache.Goals as goal

pub returns : goal.returns
returns c =
    two_put (held_text c.args.cache)
    (single (codes "dnsreplay_batches_total") (codes "Batches that made the cache.") Counts c.args.cache.version)
    _ _ _ c.in_ok-put_held.ensures c.in_ok-put_single.ensures
