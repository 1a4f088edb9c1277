use Rattle.std.proofs.Common.{ℕ, ◌<◌, [], List, false, refl, sym, subst}
use Rattle.std.proofs.lemmas.List.Elements.{All-nil}
use Rattle.cache_versions.specs.Seats.{seen_by}
use Rattle.forwarding.specs.Done.{told_once}
use Rattle.forwarding.specs.declared.want.Want.TheVariants as wants
use Rattle.forwarding.specs.Lawful.{IsAtWork}
use Rattle.forwarding.proofs.querying.reply.Goals as goal

pub reply-requires-clause-lawful : goal.reply-requires-clause-lawful
reply-requires-clause-lawful g c =
    let told = g.O.Outlet.told c.args.outlet.now in
    let done = told_once c.args.table.now c.args.client c.args.octets.now c.args.counter in
    (c.each_turn_is_lawful.ensures c.args.passed.now (seen_by c.args.seat.now) c.args.table.now c.args.counts.now c.args.event.now [] wants.Nothing done false told told c.requires.called c.requires.does (All-nil (λ id. id < 65536)) refl).0

pub returns : goal.returns
returns g c =
    let told = g.O.Outlet.told c.args.outlet.now in
    let told' = g.O.Outlet.told c.reply.new.self in
    let seen = seen_by c.args.seat.now in
    let done = told_once c.args.table.now c.args.client c.args.octets.now c.args.counter in
    let turn = c.each_turn_is_lawful.ensures c.args.passed.now seen c.args.table.now c.args.counts.now c.args.event.now [] wants.Nothing done false told told' c.requires.called c.requires.does (All-nil (λ id. id < 65536)) refl in
    subst (λ (l : List ℕ). IsAtWork c.args.passed.now seen c.args.table.now l told') (sym c.add.ensures)
    (turn.1 c.reply.ensures)
