use Rattle.std.specs.Prelude.{codes}
use Rattle.forward_report.specs.Status.{single}
use Rattle.forward_report.specs.declared.status.Kind.TheVariants.{Gauge}
use Rattle.forward_report.proofs.PutLemmas.{three_put}
use Rattle.forward_report.proofs.status.put_held.Goals as goal

pub returns : goal.returns
returns c =
    three_put
    (single (codes "dnsreplay_held_records") (codes "Records that the cache holds.") Gauge c.args.cache.records)
    (single (codes "dnsreplay_held_zones") (codes "Zones of which the cache holds a record.") Gauge c.args.cache.zones)
    (single (codes "dnsreplay_held_chains") (codes "NSEC and NSEC3 chains of which the cache holds a record.") Gauge c.args.cache.chains)
    _ _ _ _ c.in_ok-put_single.ensures c.in_ok-put_single-2.ensures c.in_ok-put_single-3.ensures
