use Rattle.std.proofs.Common.{◌≡◌, ◌∙◌, ℕ, ◌<◌, [], length, false, true, refl, sym, ap, arith}
use Rattle.std.proofs.lemmas.List.Elements.{All-nil}
use Rattle.cache_versions.specs.Seats.{seen_by}
use Rattle.counters.specs.Counts.{counted}
use Rattle.counters.specs.declared.counter.Counter.TheVariants as counters
use Rattle.waiting_table.specs.Waiting.{slot_at}
use Rattle.waiting_table.specs.Steps.{is_quiet}
use Rattle.forwarding.specs.declared.want.Want.TheVariants as wants
use Rattle.forwarding.specs.Done.{tick_done}
use Rattle.forwarding.specs.Lawful.{more_sent}
use Rattle.forwarding.proofs.LawfulLemmas.{at_work, called_more, sent_none}
use Rattle.forwarding.proofs.DoneLemmas.{tick_does}
use Rattle.forwarding.proofs.TickLemmas.{quiet_counts, quiet_sends, quiet_table}
use Rattle.forwarding.proofs.ticking.serve_tick.Goals as goal

pub returns-then-next_due-len-clause-work : goal.returns-then-next_due-len-clause-work
returns-then-next_due-len-clause-work g c =
    let told = g.O.Outlet.told c.args.outlet.now in
    let seen = seen_by c.look_over.new.seat in
    let event = c.args.event.now in
    let now = event.moment.millis in
    let quiet : (k : ℕ) → k < length c.args.table.now → is_quiet now (slot_at c.args.table.now k) ≡ true = λ k h. c.next_due.ensures.quiet k (omega arith) (omega (arith, c.if-next_due-len.true, c.len.ensures.value)) in
    let done = tick_done now [] c.args.table.now in
    let come = called_more c.args.passed.now (seen_by c.args.seat.now) seen c.args.table.now c.args.counts.now event told c.look_over.ensures.on.begins c.requires.called in
    let turn = c.each_turn_is_lawful.ensures c.args.passed.now seen c.args.table.now c.args.counts.now event [] wants.Nothing done false told told come (tick_does c.args.passed.now c.args.table.now seen event [] c.requires.tick) (All-nil _) refl in
    let none = sym (ap (more_sent told) (quiet_sends now 0 [] c.args.table.now quiet) ∙ sent_none told) in
    let counting = sym (quiet_counts now [] c.args.table.now c.args.counts.now quiet (c.each_is_small.ensures counters.Late) (c.each_is_small.ensures counters.AskedAgain)) in
    at_work c.args.passed.now seen done.table c.args.table.now (counted done.tallies c.args.counts.now) c.args.counts.now told (sym (quiet_table now [] c.args.table.now quiet)) counting (turn.1 none)

pub tick-requires-clause-lawful : goal.tick-requires-clause-lawful
tick-requires-clause-lawful g c =
    let told = g.O.Outlet.told c.args.outlet.now in
    let seen = seen_by c.look_over.new.seat in
    let event = c.args.event.now in
    let ids = c.draw-ids.result in
    let come = called_more c.args.passed.now (seen_by c.args.seat.now) seen c.args.table.now c.args.counts.now event told c.look_over.ensures.on.begins c.requires.called in
    (c.each_turn_is_lawful.ensures c.args.passed.now seen c.args.table.now c.args.counts.now event ids wants.Nothing (tick_done event.moment.millis ids c.args.table.now) false told told come (tick_does c.args.passed.now c.args.table.now seen event ids c.requires.tick) c.draw-ids.ensures refl).0

pub returns-clause-work : goal.returns-clause-work
returns-clause-work g c =
    let told = g.O.Outlet.told c.args.outlet.now in
    let seen = seen_by c.look_over.new.seat in
    let event = c.args.event.now in
    let ids = c.draw-ids.result in
    let come = called_more c.args.passed.now (seen_by c.args.seat.now) seen c.args.table.now c.args.counts.now event told c.look_over.ensures.on.begins c.requires.called in
    let done = tick_done event.moment.millis ids c.args.table.now in
    let turn = c.each_turn_is_lawful.ensures c.args.passed.now seen c.args.table.now c.args.counts.now event ids wants.Nothing done false told (g.O.Outlet.told c.tick.new.outlet) come (tick_does c.args.passed.now c.args.table.now seen event ids c.requires.tick) c.draw-ids.ensures refl in
    at_work c.args.passed.now seen done.table c.tick.new.table (counted done.tallies c.args.counts.now) c.count_tick.new.counts (g.O.Outlet.told c.tick.new.outlet) c.tick.ensures.table c.count_tick.ensures (turn.1 c.tick.ensures.told)
