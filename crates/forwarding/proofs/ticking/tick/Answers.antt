use Rattle.std.proofs.Common.{◌∙◌, ◌+◌, ◌<◌, ◌++◌, List, drop, take, get_or, length, sym, ap, arith}
use Rattle.std.proofs.lemmas.List.{drop_all, length-set}
use Rattle.cache_versions.specs.Seats.{seen_by}
use Rattle.waiting_table.specs.Waiting.{Slot, slot_at}
use Rattle.waiting_table.specs.Steps.{ticked}
use Rattle.forwarding.specs.Done.{tick_sends, ticks_from}
use Rattle.forwarding.specs.Lawful.{more_sent}
use Rattle.forwarding.proofs.LawfulLemmas.{may_nexts, sent_none}
use Rattle.forwarding.proofs.TickLemmas.{sends_next, table_next, ticked_all, told_next}
use Rattle.forwarding.proofs.ticking.tick.Goals as goal

pub tick_slot-requires-clause-lawful : goal.tick_slot-requires-clause-lawful
tick_slot-requires-clause-lawful g c =
    let at = c.loop-slot in
    let within : at.slot < length at.table = omega (arith, at.invariant.size, c.len-slot-end.ensures.value) in
    may_nexts c.args.passed.now (seen_by c.args.seat.now) (g.O.Outlet.told c.args.outlet.now) (g.O.Outlet.told at.outlet)
    (tick_sends c.args.now at.slot (get_or c.args.ids.now at.slot 0) (slot_at at.table at.slot))
    (ticks_from c.args.now at.slot (drop at.slot c.args.ids.now) (drop at.slot at.table))
    (ticks_from c.args.now (at.slot + 1) (drop (at.slot + 1) c.args.ids.now) (drop (at.slot + 1) at.table))
    (ticks_from c.args.now 0 c.args.ids.now c.args.table.now)
    (sends_next c.args.now c.args.ids.now at.table at.slot within) at.invariant.told c.requires.lawful

pub loop-slot-preserved : goal.loop-slot-preserved
loop-slot-preserved g c =
    let at = c.loop-slot in
    let within : at.slot < length at.table = omega (arith, at.invariant.size, c.len-slot-end.ensures.value) in
    record {
      size = ap length c.tick_slot.ensures.table ∙ length-set at.table at.slot _ ∙ at.invariant.size;
      table = ap (λ (t : List Slot). take (at.slot + 1) t ++ ticked c.args.now (drop (at.slot + 1) c.args.ids.now) (drop (at.slot + 1) t)) c.tick_slot.ensures.table
          ∙ table_next c.args.now c.args.ids.now at.table at.slot within (ticked c.args.now c.args.ids.now c.args.table.now) at.invariant.table;
      told = told_next c.args.now c.args.ids.now at.table at.slot within (g.O.Outlet.told c.args.outlet.now) (g.O.Outlet.told at.outlet) (g.O.Outlet.told c.tick_slot.new.outlet) c.tick_slot.new.table (ticks_from c.args.now 0 c.args.ids.now c.args.table.now) at.invariant.told c.tick_slot.ensures.told c.tick_slot.ensures.table;
    }

pub returns-clause-table : goal.returns-clause-table
returns-clause-table g c =
    let at = c.loop-slot in
    ticked_all c.args.now (drop at.slot c.args.ids.now) at.table at.slot (omega (arith, at.invariant.size, c.len-slot-end.ensures.value)) ∙ at.invariant.table

pub returns-clause-told : goal.returns-clause-told
returns-clause-told g c =
    let at = c.loop-slot in
    let none = drop_all at.slot at.table (omega (arith, at.invariant.size, c.len-slot-end.ensures.value)) in
    sym (sent_none (g.O.Outlet.told at.outlet))
    ∙ ap (λ (left : List Slot). more_sent (g.O.Outlet.told at.outlet) (ticks_from c.args.now at.slot (drop at.slot c.args.ids.now) left)) (sym none)
    ∙ at.invariant.told
