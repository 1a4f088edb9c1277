use Rattle.std.specs.Prelude.{IfOk}
use Rattle.std.proofs.lemmas.Result.{IfOk-weaker}
use Rattle.facts.proofs.Jobs.{gives_each}
use Rattle.worker_seats.specs.Answering.{rule_of}
use Rattle.worker_seats.specs.Work.{IsShiftOf}
use Rattle.worker_seats.proofs.workers.do_jobs.Goals as goal

pub returns-clause-each : goal.returns-clause-each
returns-clause-each g c = IfOk-weaker c.map_vec.result _ _ (λ results gives. gives_each _ _ (λ job r. IfOk r (IsShiftOf (rule_of c.args.answering) c.args.cache.now job c.args.frames.now)) (λ job r post. post) c.args.jobs.items results.items gives) c.map_vec.ensures.each
