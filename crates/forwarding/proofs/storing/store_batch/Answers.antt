use Rattle.std.proofs.Common.{◌∙◌, Option, false, refl, subst, sym}
use Rattle.std.specs.Prelude.{IfOk}
use Rattle.cache_versions.specs.Seats.{seen_by}
use Rattle.counters.specs.declared.counter.Counter.TheVariants as counters
use Rattle.denial_records.specs.declared.batch.Batch.{Batch}
use Rattle.forwarding.specs.Done.{stored_as}
use Rattle.forwarding.specs.Stored.{IsStored}
use Rattle.forwarding.proofs.storing.store_batch.Goals as goal

pub returns-in-Ok-Some-clause-stored : goal.returns-in-Ok-Some-clause-stored
returns-in-Ok-Some-clause-stored g c =
    subst (λ (b : Option Batch). IfOk c.insert.result (IsStored (stored_as b) (seen_by c.insert.new.seat))) (sym c.in-Ok-Some.field-0-is ∙ c.in-Ok-Some.ensures) c.insert.ensures.stored

pub returns-in-Ok-None-clause-stored : goal.returns-in-Ok-None-clause-stored
returns-in-Ok-None-clause-stored g c =
    subst (λ (b : Option Batch). IsStored (stored_as b) (seen_by c.args.seat.now) counters.Passed) (sym c.in-Ok-None.field-0-is ∙ c.in-Ok-None.ensures) (record { counted = refl; placed = false; kept = refl })
