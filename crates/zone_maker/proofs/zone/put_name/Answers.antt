use Rattle.std.proofs.Common.{ap, ◌∙◌}
use Rattle.zone_maker.specs.Made.{type_in, data_in, kind_at}
use Rattle.zone_maker.proofs.MadeLemmas.{below}
use Rattle.zone_maker.proofs.ZoneLemmas.{name_is_fresh, name_in}
use Rattle.zone_maker.proofs.zone.put_name.Goals as goal

pub put-requires-clause-under : goal.put-requires-clause-under
put-requires-clause-under c = rw (c.requires.apex, c.owner_at.ensures) (below (kind_at c.args.i) c.args.i)

pub put-requires-clause-fresh : goal.put-requires-clause-fresh
put-requires-clause-fresh c = name_is_fresh c.args.seed c.args.i _ _ _ c.args.zone.now.records c.requires.few c.owner_at.ensures c.requires.records

pub returns-clause-records : goal.returns-clause-records
returns-clause-records c = name_in c.args.seed c.args.i _ _ _ c.args.zone.now.records c.put.new.zone.records c.owner_at.ensures
    (c.type_in.ensures ∙ ap type_in c.kind_at-kind.ensures)
    (c.in_ok-data.ensures ∙ ap (λ kind. data_in kind c.args.seed c.args.i) c.kind_at-kind.ensures)
    c.requires.records c.in_ok-put.ensures.records
