use Rattle.zone_index.proofs.HashLemmas.{more_tables}
use Rattle.zone_index.proofs.zone_search.table_for.Goals as goal

pub returns-clause-tables : goal.returns-clause-tables
returns-clause-tables c = more_tables c.args.zone.now _ _ c.args.tables.now.items c.push.new.self.items c.in_ok-table.table c.requires.tables c.in_ok-table.ensures c.in_ok-push.ensures.items
