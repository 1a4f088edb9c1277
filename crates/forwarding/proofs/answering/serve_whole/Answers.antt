use Rattle.std.proofs.Common.{◌∙◌, [], map, sym, ap, subst}
use Rattle.std.proofs.lemmas.List.Elements.{All-nil}
use Rattle.cache_versions.specs.Seats.{seen_by}
use Rattle.counters.specs.Counts.{counted}
use Rattle.dnswire.specs.declared.message.Message.{Message}
use Rattle.waiting_table.specs.Waiting.{clients_in, slot_at}
use Rattle.forwarding.specs.Done.{answered, relays}
use Rattle.forwarding.specs.Lawful.{MaySendAll, more_sent}
use Rattle.forwarding.proofs.LawfulLemmas.{at_work, called_more}
use Rattle.forwarding.proofs.DoneLemmas.{relay_counted, relay_does}
use Rattle.forwarding.proofs.answering.serve_whole.Goals as goal

pub relay_all-requires-clause-lawful : goal.relay_all-requires-clause-lawful
relay_all-requires-clause-lawful g c =
    let told = g.O.Outlet.told c.args.outlet.now in
    let seen = seen_by c.store.new.seat in
    let come = called_more c.args.passed.now (seen_by c.args.seat.now) seen c.args.table.now c.args.counts.now c.args.event.now told c.store.ensures.on.begins c.requires.called in
    let stored = c.store.ensures.stored in
    let does = relay_does c.args.passed.now c.args.table.now seen c.args.event.now c.args.slot c.args.carrier c.requires.answer c.args.message c.store.result stored c.requires.message c.requires.fits c.requires.whole in
    let turn = c.each_turn_is_lawful.ensures c.args.passed.now seen c.args.table.now c.args.counts.now c.args.event.now [] stored.want (relays c.args.table.now c.args.slot c.args.message stored.storing) stored.stored.placed told told come does (All-nil _) stored.stored.kept in
    subst (λ (m : Message). MaySendAll c.args.passed.now seen told (map (answered m) (clients_in (slot_at c.args.table.now c.args.slot)))) (sym c.trusted-message.ensures.value) turn.0

pub returns-clause-work : goal.returns-clause-work
returns-clause-work g c =
    let told = g.O.Outlet.told c.args.outlet.now in
    let told' = g.O.Outlet.told c.relay_all.new.outlet in
    let seen = seen_by c.store.new.seat in
    let come = called_more c.args.passed.now (seen_by c.args.seat.now) seen c.args.table.now c.args.counts.now c.args.event.now told c.store.ensures.on.begins c.requires.called in
    let stored = c.store.ensures.stored in
    let does = relay_does c.args.passed.now c.args.table.now seen c.args.event.now c.args.slot c.args.carrier c.requires.answer c.args.message c.store.result stored c.requires.message c.requires.fits c.requires.whole in
    let done = relays c.args.table.now c.args.slot c.args.message stored.storing in
    let turn = c.each_turn_is_lawful.ensures c.args.passed.now seen c.args.table.now c.args.counts.now c.args.event.now [] stored.want done stored.stored.placed told told' come does (All-nil _) stored.stored.kept in
    let sent = c.relay_all.ensures ∙ ap (λ (m : Message). more_sent told (map (answered m) (clients_in (slot_at c.args.table.now c.args.slot)))) c.trusted-message.ensures.value in
    let counting = c.count_relay.ensures ∙ relay_counted c.args.counts.now c.add.new.self c.args.table.now c.args.slot c.args.message stored.storing c.store.result stored.stored.counted c.add.ensures in
    at_work c.args.passed.now seen done.table c.free.new.self (counted done.tallies c.args.counts.now) c.count_relay.new.counts told' c.free.ensures counting (turn.1 sent)
