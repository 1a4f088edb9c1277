use Rattle.forwarding.proofs.LawfulLemmas.{each_turn_lawful}
use Rattle.forwarding.proofs.laws.each_turn_is_lawful.Goals as goal

pub returns : goal.returns
returns c = each_turn_lawful c.each_query_is_answered_soundly.ensures
