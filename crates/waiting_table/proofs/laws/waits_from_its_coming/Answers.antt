use Rattle.waiting_table.proofs.SinceLemmas.{each_from_its_coming, never_for_long_since}
use Rattle.waiting_table.proofs.laws.waits_from_its_coming.Goals as goal

pub returns-clause-since : goal.returns-clause-since
returns-clause-since c = each_from_its_coming

pub returns-clause-never_for_long : goal.returns-clause-never_for_long
returns-clause-never_for_long c = never_for_long_since
