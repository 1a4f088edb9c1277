use Rattle.waiting_table.proofs.SinceLemmas.{due_after_first, due_after_second}
use Rattle.waiting_table.proofs.laws.a_question_waits_by_these_times.Goals as goal

pub returns-clause-second : goal.returns-clause-second
returns-clause-second c = due_after_first

pub returns-clause-third : goal.returns-clause-third
returns-clause-third c = due_after_second
