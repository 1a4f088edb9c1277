use Rattle.std.proofs.Common.{◌≡◌}
use Rattle.std.specs.Prelude.{Ok}
use Rattle.std.proofs.lemmas.Result.{IfOk-weaker}
use Rattle.cache_versions.specs.Seats.{seen_by}
use Rattle.counters.specs.declared.counter.Counter.{Counter}
use Rattle.intake.specs.declared.intake_fault.IntakeFault.TheVariants.{OutOfMemory}
use Rattle.record_store.proofs.DroppingLemmas.{both_ok}
use Rattle.forwarding.specs.Done.{refusal_of, stored_as}
use Rattle.forwarding.specs.Passed.{stored_of}
use Rattle.forwarding.specs.Stored.{IsStored, IsStoredIn}
use Rattle.forwarding.proofs.DoneLemmas.{refused_in}
use Rattle.forwarding.proofs.storing.store_octets.Goals as goal

pub returns-in-Ok-clause-stored : goal.returns-in-Ok-clause-stored
returns-in-Ok-clause-stored g c =
    let seen = seen_by c.store_batch.new.seat in
    IfOk-weaker c.store_batch.result (IsStored (stored_as (stored_of c.args.passed.now c.in-Ok.taken.batch)) seen) (IsStoredIn c.args.passed.now c.args.octets.now c.args.now seen)
    (λ k is. record { given = Ok c.in-Ok.taken; gives = c.in-Ok.ensures.taken; stored = is }) c.store_batch.ensures.stored

pub returns-in-Err-clause-stored : goal.returns-in-Err-clause-stored
returns-in-Err-clause-stored g c =
    let seen = seen_by c.args.seat.now in
    both_ok c.refusal_of.result (λ (k : Counter). k ≡ refusal_of c.in-Err.fault) (λ (k : Counter). c.in-Err.fault ≡ OutOfMemory → ⊥) (IsStoredIn c.args.passed.now c.args.octets.now c.args.now seen)
    (λ k is memory. refused_in c.args.passed.now c.args.octets.now c.args.now seen c.in-Err.fault k c.in-Err.ensures.refused memory is)
    c.refusal_of.ensures.counter c.refusal_of.ensures.memory
