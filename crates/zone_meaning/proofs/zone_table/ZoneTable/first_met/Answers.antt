use Rattle.std.proofs.Common.{◌-◌, length, sym, ap, subst, arith}
use Rattle.dname.specs.Name.{IsUnder}
use Rattle.zone_meaning.proofs.LookLemmas.{last_above, none_above_apex}
use Rattle.zone_meaning.proofs.zone_table.ZoneTable.first_met.Goals as goal

pub loop-n-init : goal.loop-n-init
loop-n-init c = λ other met short. none_above_apex c.args.self.now c.apex.ensures.zone c.args.name.now c.args.qtype other met (omega (arith, short, ap length c.apex.ensures.value))

pub meets_cut-requires : goal.meets_cut-requires
meets_cut-requires c = subst (IsUnder c.args.name.now) (sym c.last-other.ensures) (last_above c.args.name.now (length c.args.name.now - c.loop-n.n))

pub meets_dname-requires : goal.meets_dname-requires
meets_dname-requires c = subst (IsUnder c.args.name.now) (sym c.last-other.ensures) (last_above c.args.name.now (length c.args.name.now - c.loop-n.n))
