use Rattle.zone_meaning.proofs.TableLemmas.{reached_by, reached_from}
use Rattle.zone_meaning.proofs.zone_table.ZoneTable.reaches.Goals as goal

pub returns : goal.returns
returns c = (
  λ yes. reached_by c.args.self.now c.groups.result.now c.groups.ensures c.args.name.now (c.any_under.ensures.0 yes),
  λ reached. c.any_under.ensures.1 (reached_from c.args.self.now c.groups.result.now c.groups.ensures c.args.name.now reached),
)
