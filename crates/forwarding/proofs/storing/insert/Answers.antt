use Rattle.std.proofs.Common.{◌≡◌, Some, refl}
use Rattle.cache_versions.specs.Seats.{seen_by}
use Rattle.counters.specs.declared.counter.Counter.{Counter}
use Rattle.counters.specs.declared.counter.Counter.TheVariants as counters
use Rattle.record_store.proofs.DroppingLemmas.{both_ok}
use Rattle.resolver.specs.declared.cache_fault.CacheFault.TheVariants.{OutOfMemory}
use Rattle.forwarding.specs.Done.{storing}
use Rattle.forwarding.specs.Stored.{IsStored}
use Rattle.forwarding.proofs.StoredLemmas.{stored_last, stored_not}
use Rattle.forwarding.proofs.storing.insert.Goals as goal

pub returns-in-Ok-clause-stored : goal.returns-in-Ok-clause-stored
returns-in-Ok-clause-stored g c = let placed = c.in-Ok.ensures.answer in stored_last (seen_by c.insert.new.seat) placed.former _ placed.seen

pub returns-in-Err-clause-stored : goal.returns-in-Err-clause-stored
returns-in-Err-clause-stored g c =
    both_ok c.without_number.result (λ (k : Counter). k ≡ counters.Stored) (λ (k : Counter). c.in-Err.fault ≡ OutOfMemory → ⊥)
    (IsStored (storing (Some c.args.batch.now) counters.Stored) (seen_by c.insert.new.seat))
    (λ k is memory. stored_not c.args.seat.now c.insert.new.seat c.args.batch.now c.in-Err.fault k refl c.in-Err.ensures.answer memory is)
    c.without_number.ensures.counter c.without_number.ensures.memory
