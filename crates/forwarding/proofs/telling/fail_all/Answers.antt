use Rattle.std.proofs.Common.{◌≡◌, ◌∙◌, ◌+◌, List, [], drop, map, sym, ap, arith}
use Rattle.std.proofs.lemmas.List.{drop_all}
use Rattle.cache_versions.specs.Seats.{seen_by}
use Rattle.waiting_table.specs.Waiting.{clients_in, slot_at}
use Rattle.waiting_table.specs.declared.client.Client.{Client}
use Rattle.forwarding.specs.Done.{failed}
use Rattle.forwarding.specs.Lawful.{more_sent}
use Rattle.forwarding.proofs.LawfulLemmas.{may_next, next_left, sent_none, whole_next}
use Rattle.forwarding.proofs.telling.fail_all.Goals as goal

pub fail_one-requires-clause-lawful : goal.fail_one-requires-clause-lawful
fail_one-requires-clause-lawful g c =
    let clients = clients_in (slot_at c.args.table.now c.args.slot) in
    let at = c.loop-i in
    let next = next_left failed clients at.i c.client.result (omega (arith, c.clients-i-end.ensures)) c.client.ensures in
    may_next c.args.passed.now (seen_by c.args.seat.now) (g.O.Outlet.told c.args.outlet.now) (g.O.Outlet.told at.outlet) (failed c.client.result) (map failed (drop at.i clients)) (map failed (drop (at.i + 1) clients)) (map failed clients) next at.invariant c.requires.lawful

pub loop-i-preserved : goal.loop-i-preserved
loop-i-preserved g c =
    let clients = clients_in (slot_at c.args.table.now c.args.slot) in
    let at = c.loop-i in
    let next = next_left failed clients at.i c.client.result (omega (arith, c.clients-i-end.ensures)) c.client.ensures in
    whole_next (g.O.Outlet.told c.args.outlet.now) (g.O.Outlet.told at.outlet) (g.O.Outlet.told c.fail_one.new.outlet) (failed c.client.result) (map failed (drop at.i clients)) (map failed (drop (at.i + 1) clients)) (map failed clients) next at.invariant c.fail_one.ensures

pub returns : goal.returns
returns g c =
    let clients = clients_in (slot_at c.args.table.now c.args.slot) in
    let at = c.loop-i in
    let none : drop at.i clients ≡ [] = drop_all at.i clients (omega (arith, c.clients-i-end.ensures)) in
    sym (sent_none (g.O.Outlet.told at.outlet))
    ∙ ap (λ (left : List Client). more_sent (g.O.Outlet.told at.outlet) (map failed left)) (sym none)
    ∙ at.invariant
