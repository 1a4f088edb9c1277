use Rattle.zone_meaning.proofs.WildcardLemmas.{wildcard_without_type, empty_wildcard}
use Rattle.zone_meaning.proofs.denial.no_data_by_a_wildcard.Goals as goal

pub returns : goal.returns
returns c = record { without_type = wildcard_without_type; empty = empty_wildcard }
