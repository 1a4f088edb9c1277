use Rattle.held_laws.proofs.AnswerLemmas.{proof_alike, outcome_alike}
use Rattle.held_laws.proofs.answers.answers_read_lookups_alone.Goals as goal

pub returns : goal.returns
returns c = record { proof = proof_alike; outcome = outcome_alike }
