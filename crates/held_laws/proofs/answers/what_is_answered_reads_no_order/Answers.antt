use Rattle.held_laws.proofs.AnswerLemmas.{same_lookups, proof_alike, outcome_alike}
use Rattle.held_laws.proofs.OrderedLemmas.{all_alike}
use Rattle.held_laws.proofs.answers.what_is_answered_reads_no_order.Goals as goal

pub returns : goal.returns
returns c = record {
  lookups = same_lookups;
  proof = λ held other apart order. proof_alike held other (same_lookups held other apart order);
  outcome = λ held other apart order. outcome_alike held other (same_lookups held other apart order);
  kept = λ batches. let alike = all_alike batches in outcome_alike _ _ (same_lookups _ _ alike.apart alike.order);
}
