use Rattle.std.specs.Prelude.{IfOk}
use Rattle.std.proofs.lemmas.Result.{IfOk-weaker}
use Rattle.facts.proofs.Jobs.{gives_each}
use Rattle.worker_seats.specs.Cuts.{parts_of}
use Rattle.worker_seats.specs.Ranges.{AreOfRange}
use Rattle.worker_seats.proofs.ranges.merge_ranges.Goals as goal

pub returns-clause-each : goal.returns-clause-each
returns-clause-each g c = IfOk-weaker c.map_vec.result _ _ (λ results gives. gives_each _ _ (λ job r. IfOk r (λ buffer. AreOfRange (parts_of c.args.outputs.now) c.args.frames.now job.range buffer.items)) (λ job r post. post) c.args.jobs.items results.items gives) c.map_vec.ensures.each
