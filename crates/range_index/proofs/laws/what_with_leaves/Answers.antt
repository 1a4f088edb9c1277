use Rattle.range_index.proofs.MemberLemmas.{members_with, count_with}
use Rattle.range_index.proofs.laws.what_with_leaves.Goals as goal

pub returns-clause-members : goal.returns-clause-members
returns-clause-members g c = members_with

pub returns-clause-count : goal.returns-clause-count
returns-clause-count g c = count_with
