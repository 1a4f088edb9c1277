use Rattle.std.proofs.Common.{◌∙◌}
use Rattle.forwarding.proofs.TickLemmas.{tick_counted}
use Rattle.forwarding.proofs.ticking.count_tick.Goals as goal

pub returns : goal.returns
returns c =
    c.add-2.ensures ∙ tick_counted c.args.now c.args.table.now c.args.counts.now c.add.new.self c.late.result c.due.result c.late.ensures c.add.ensures c.due.ensures
