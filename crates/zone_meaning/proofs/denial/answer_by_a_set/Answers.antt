use Rattle.zone_meaning.proofs.DenialLemmas.{answer_by_a_set}
use Rattle.zone_meaning.proofs.WildcardLemmas.{wildcard_answer}
use Rattle.zone_meaning.proofs.denial.answer_by_a_set.Goals as goal

pub returns : goal.returns
returns c = record { at_its_owner = answer_by_a_set; by_a_wildcard = wildcard_answer }
