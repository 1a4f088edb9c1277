use Rattle.std.proofs.Common.{◌∙◌, ℕ, ◌<◌, ◌∷◌, [], List, false, refl, sym, ap, subst, arith}
use Rattle.facts.proofs.Lists.{all_one}
use Rattle.arrivals.specs.declared.carrier.Carrier.TheVariants.{Datagram}
use Rattle.cache_versions.specs.Seats.{seen_by}
use Rattle.counters.specs.Counts.{counted}
use Rattle.waiting_table.specs.Waiting.{slot_at}
use Rattle.forwarding.specs.Done.{asks_by_stream}
use Rattle.forwarding.specs.declared.sent.Sent.{Sent}
use Rattle.forwarding.specs.declared.want.Want.TheVariants as wants
use Rattle.forwarding.specs.Lawful.{MaySendAll, more_sent}
use Rattle.forwarding.proofs.LawfulLemmas.{at_work}
use Rattle.forwarding.proofs.DoneLemmas.{cut_does, may_stream, stream_sends}
use Rattle.forwarding.proofs.answering.serve_cut.Goals as goal

pub ask-requires-clause-lawful : goal.ask-requires-clause-lawful
ask-requires-clause-lawful g c =
    let told = g.O.Outlet.told c.args.outlet.now in
    let seen = seen_by c.args.seat.now in
    let id = c.draw-id.result in
    let slot = slot_at c.args.table.now c.args.slot in
    let does = cut_does c.args.passed.now c.args.table.now seen c.args.event.now c.args.slot Datagram c.requires.answer c.args.message.now id c.requires.message c.requires.fits c.requires.cut in
    let turn = c.each_turn_is_lawful.ensures c.args.passed.now seen c.args.table.now c.args.counts.now c.args.event.now (id ∷ []) wants.Nothing (asks_by_stream c.args.table.now c.args.slot id) false told told c.requires.called does (all_one (λ (n : ℕ). n < 65536) id (omega (arith, c.draw-id.type_inv))) refl in
    subst (MaySendAll c.args.passed.now seen told) (stream_sends c.args.slot id slot c.question.result.now (may_stream c.args.message.now slot c.requires.fits) c.question.ensures) turn.0

pub ask_by_stream-requires-clause-open : goal.ask_by_stream-requires-clause-open
ask_by_stream-requires-clause-open g c = may_stream c.args.message.now (slot_at c.args.table.now c.args.slot) c.requires.fits

pub returns : goal.returns
returns g c =
    let told = g.O.Outlet.told c.args.outlet.now in
    let told' = g.O.Outlet.told c.ask.new.outlet in
    let seen = seen_by c.args.seat.now in
    let id = c.draw-id.result in
    let slot = slot_at c.args.table.now c.args.slot in
    let does = cut_does c.args.passed.now c.args.table.now seen c.args.event.now c.args.slot Datagram c.requires.answer c.args.message.now id c.requires.message c.requires.fits c.requires.cut in
    let done = asks_by_stream c.args.table.now c.args.slot id in
    let turn = c.each_turn_is_lawful.ensures c.args.passed.now seen c.args.table.now c.args.counts.now c.args.event.now (id ∷ []) wants.Nothing done false told told' c.requires.called does (all_one (λ (n : ℕ). n < 65536) id (omega (arith, c.draw-id.type_inv))) refl in
    let sent = c.ask.ensures ∙ ap (more_sent told) (sym (stream_sends c.args.slot id slot c.question.result.now (may_stream c.args.message.now slot c.requires.fits) c.question.ensures)) in
    at_work c.args.passed.now seen done.table c.ask_by_stream.new.self (counted done.tallies c.args.counts.now) c.add.new.self told' c.ask_by_stream.ensures c.add.ensures (turn.1 sent)
