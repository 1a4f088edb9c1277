use Rattle.std.proofs.Common.{◌∙◌, [], false, refl, sym}
use Rattle.std.proofs.lemmas.List.Elements.{All-nil}
use Rattle.cache_versions.specs.Seats.{seen_by}
use Rattle.counters.specs.Counts.{counted}
use Rattle.counters.specs.declared.counter.Counter.TheVariants as counters
use Rattle.forwarding.specs.Done.{gives_up}
use Rattle.forwarding.specs.declared.want.Want.TheVariants as wants
use Rattle.forwarding.proofs.LawfulLemmas.{at_work}
use Rattle.forwarding.proofs.DoneLemmas.{bare_does, counted_with, not_bare_does, nothing_done}
use Rattle.forwarding.proofs.answering.serve_bare.Goals as goal

pub returns-then-not-is_bare_for : goal.returns-then-not-is_bare_for
returns-then-not-is_bare_for g c =
    let seen = seen_by c.args.seat.now in
    let does = not_bare_does c.args.passed.now c.args.table.now seen c.args.event.now c.args.slot c.args.carrier c.requires.answer c.requires.none (sym c.is_bare_for.ensures ∙ c.if-not-is_bare_for.true) in
    nothing_done c.each_turn_is_lawful.ensures c.args.passed.now seen c.args.table.now c.args.counts.now c.add.new.self c.args.event.now [] wants.Nothing counters.Ignored (g.O.Outlet.told c.args.outlet.now) c.requires.called does (All-nil _) c.add.ensures

pub fail_all-requires-clause-lawful : goal.fail_all-requires-clause-lawful
fail_all-requires-clause-lawful g c =
    let told = g.O.Outlet.told c.args.outlet.now in
    let seen = seen_by c.args.seat.now in
    let does = bare_does c.args.passed.now c.args.table.now seen c.args.event.now c.args.slot c.args.carrier c.requires.answer c.requires.none (sym c.is_bare_for.ensures ∙ c.if-not-is_bare_for.false) in
    (c.each_turn_is_lawful.ensures c.args.passed.now seen c.args.table.now c.args.counts.now c.args.event.now [] wants.Nothing (gives_up c.args.table.now c.args.slot) false told told c.requires.called does (All-nil _) refl).0

pub returns : goal.returns
returns g c =
    let told = g.O.Outlet.told c.args.outlet.now in
    let told' = g.O.Outlet.told c.fail_all.new.outlet in
    let seen = seen_by c.args.seat.now in
    let does = bare_does c.args.passed.now c.args.table.now seen c.args.event.now c.args.slot c.args.carrier c.requires.answer c.requires.none (sym c.is_bare_for.ensures ∙ c.if-not-is_bare_for.false) in
    let done = gives_up c.args.table.now c.args.slot in
    let turn = c.each_turn_is_lawful.ensures c.args.passed.now seen c.args.table.now c.args.counts.now c.args.event.now [] wants.Nothing done false told told' c.requires.called does (All-nil _) refl in
    let counting = c.add-2.ensures ∙ counted_with c.args.counts.now counters.Unreadable c.clients.ensures in
    at_work c.args.passed.now seen done.table c.free.new.self (counted done.tallies c.args.counts.now) c.add-2.new.self told' c.free.ensures counting (turn.1 c.fail_all.ensures)
