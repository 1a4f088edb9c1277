use Rattle.std.proofs.Common.{◌≡◌, ◌<◌, length, subst, arith, get_or}
use Rattle.std.specs.Prelude.{IfOk}
use Rattle.std.proofs.lemmas.Result.{IfOk-weaker}
use Rattle.facts.proofs.Lists.{some_of}
use Rattle.resolver.specs.Caches.{IsSeatOf}
use Rattle.worker_seats.specs.declared.shift.Job.{Job}
use Rattle.worker_seats.specs.Answering.{rule_of}
use Rattle.worker_seats.specs.Work.{IsShiftOf}
use Rattle.worker_seats.proofs.WorkersLemmas.{job_at, all_jobs, jobs_length}
use Rattle.worker_seats.proofs.workers.work_all.Goals as goal

pub do_jobs-requires-clause-object : goal.do_jobs-requires-clause-object
do_jobs-requires-clause-object g c = λ κs live. all_jobs (λ s. IsSeatOf c.args.cache.now s) (λ j. j.seat) c.in_ok-jobs.jobs.items c.args.seats.items c.in_ok-jobs.ensures.seats c.requires.object

pub returns-clause-each : goal.returns-clause-each
returns-clause-each g c = IfOk-weaker c.do_jobs.result _ _ (λ results each worker d e lt.
    let jobs = c.in_ok-jobs.jobs.items in
    let inputs = c.args.frames.now in
    let many = jobs_length (λ j. j.seat) jobs c.args.seats.items c.in_ok-jobs.ensures.seats in
    let lt' : worker < length jobs = omega (arith, lt, many) in
    let first = some_of jobs worker lt' in
    let job = job_at (λ j. j.worker) (λ j. j.seat) jobs c.args.seats.items worker first e c.in_ok-jobs.ensures.seats c.in_ok-jobs.ensures.places lt' in
    let same : get_or jobs worker first ≡ record { worker = worker; seat = get_or c.args.seats.items worker e } = λ i. record { worker = job.0 i; seat = job.1 i } in
    subst (λ (j : Job). IfOk (get_or results.items worker d) (IsShiftOf (rule_of c.args.answering) c.args.cache.now j inputs)) same (each worker d first lt')) c.do_jobs.ensures.each
