use Rattle.zone_maker.proofs.zone.zone.Goals as goal

pub loop-i-init : goal.loop-i-init
loop-i-init c = (c.in_ok-zone.ensures.apex, c.in_ok-zone.ensures.records c.args.seed)
