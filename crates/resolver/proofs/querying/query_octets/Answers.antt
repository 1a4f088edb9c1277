use Rattle.resolver.proofs.QueryLemmas.{has_answer, is_answered, one_query, sound_reply}
use Rattle.resolver.proofs.querying.query_octets.Goals as goal

pub returns-clause-every : goal.returns-clause-every
returns-clause-every c = λ outcome told is. one_query c.args.answering c.args.store.now c.args.octets.now c.args.now c.outcome_of.result outcome c.outcome_of.new.out told c.outcome_of.ensures is

pub returns-clause-exact : goal.returns-clause-exact
returns-clause-exact c = (
  has_answer c.args.answering c.args.store.now c.args.octets.now c.args.now c.outcome_of.result c.outcome_of.new.out c.outcome_of.ensures,
  is_answered c.args.answering c.args.store.now c.args.octets.now c.args.now c.outcome_of.result c.outcome_of.new.out c.outcome_of.ensures,
)

pub returns-clause-sound : goal.returns-clause-sound
returns-clause-sound c = sound_reply c.args.answering c.args.store.now c.args.octets.now c.args.now c.outcome_of.result c.outcome_of.new.out c.outcome_of.ensures
