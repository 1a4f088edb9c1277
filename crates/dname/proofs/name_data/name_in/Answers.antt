use Rattle.std.proofs.Common.{sym, subst}
use Rattle.dname.specs.Read.{Spells}
use Rattle.dname.proofs.NameDataLemmas.{name_spelled, name_ends_early, no_name_read}
use Rattle.dname.proofs.name_data.name_in.Goals as goal

pub returns-then-taken-octets : goal.returns-then-taken-octets
returns-then-taken-octets c =
    sym (name_spelled c.args.octets.now c.in-Ok.name
    (subst (Spells c.args.octets.now c.in-Ok.name) c.if-taken-octets.true c.in-Ok.ensures.read))

pub returns-else-taken-octets : goal.returns-else-taken-octets
returns-else-taken-octets c =
    name_ends_early c.args.octets.now c.in-Ok.name c.in-Ok.taken c.in-Ok.ensures.read c.if-taken-octets.false

pub returns-in-Err : goal.returns-in-Err
returns-in-Err c = no_name_read c.args.octets.now c.in-Err.field-0 c.in-Err.ensures.refused
