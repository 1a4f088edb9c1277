use Rattle.std.proofs.Common.{[], refl, subst}
use Rattle.std.proofs.lemmas.List.Elements.{All-nil}
use Rattle.cache_versions.specs.Seats.{seen_by}
use Rattle.counters.specs.declared.counter.Counter.TheVariants as counters
use Rattle.dnswire.specs.Query.{IsReadAs}
use Rattle.dnswire.specs.declared.query_read.QueryRead.TheVariants as reads
use Rattle.forwarding.specs.Done.{silent}
use Rattle.forwarding.specs.declared.want.Want.TheVariants as wants
use Rattle.forwarding.proofs.DoneLemmas.{nothing_done, query_does}
use Rattle.forwarding.proofs.querying.serve_query.Goals as goal

pub returns-in-Dropped-clause-work : goal.returns-in-Dropped-clause-work
returns-in-Dropped-clause-work g c =
    let seen = seen_by c.args.seat.now in
    let read = subst (IsReadAs c.args.event.now.octets.items) c.in-Dropped.is c.read-asked.ensures in
    let does = query_does c.args.passed.now c.args.table.now seen c.args.event.now [] c.args.client c.args.carrier reads.Dropped (silent c.args.table.now counters.Dropped) c.requires.query read refl in
    nothing_done c.each_turn_is_lawful.ensures c.args.passed.now seen c.args.table.now c.args.counts.now c.add.new.self c.args.event.now [] wants.Nothing counters.Dropped (g.O.Outlet.told c.args.outlet.now) c.requires.called does (All-nil _) c.add.ensures
