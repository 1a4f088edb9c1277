use Rattle.std.proofs.Common.{[]}
use Rattle.std.proofs.lemmas.List.Elements.{All-nil}
use Rattle.cache_versions.specs.Seats.{seen_by}
use Rattle.counters.specs.declared.counter.Counter.TheVariants as counters
use Rattle.forwarding.specs.declared.want.Want.TheVariants as wants
use Rattle.forwarding.proofs.DoneLemmas.{nothing_done, unread_does}
use Rattle.forwarding.proofs.answering.serve_answer.Goals as goal

pub returns-in-Err-clause-work : goal.returns-in-Err-clause-work
returns-in-Err-clause-work g c =
    let seen = seen_by c.args.seat.now in
    nothing_done c.each_turn_is_lawful.ensures c.args.passed.now seen c.args.table.now c.args.counts.now c.add.new.self c.args.event.now [] wants.ToRead counters.Unread (g.O.Outlet.told c.args.outlet.now) c.requires.called
    (unread_does c.args.passed.now c.args.table.now seen c.args.event.now c.args.slot c.args.carrier c.requires.answer) (All-nil _) c.add.ensures
