-- What became of a batch that was inserted.
use Rattle.std.proofs.Common.{◌≡◌, ◌∙◌, ◌-◌, true, false, List, [], ◌∷◌, ◌++◌, length, slice_get, Some, refl, sym, ap, subst, arith, length-append}
use Rattle.counters.specs.declared.counter.Counter.{Counter}
use Rattle.counters.specs.declared.counter.Counter.TheVariants as counters
use Rattle.denial_records.specs.declared.batch.Batch.{Batch}
use Rattle.cache_meaning.specs.Held.{Held}
use Rattle.cache_versions.specs.declared.state.State.{Ghosts}
use Rattle.cache_versions.specs.declared.seat.Seat.{Seat}
use Rattle.cache_versions.specs.Seats.{seen_by}
use Rattle.resolver.specs.Caches.{NotPlaced}
use Rattle.resolver.specs.declared.cache_fault.CacheFault.{CacheFault}
use Rattle.resolver.specs.declared.cache_fault.CacheFault.TheVariants.{NumbersSpent, OutOfMemory}
use Rattle.forwarding.specs.Done.{storing}
use Rattle.forwarding.specs.Stored.{IsStored}
use Rattle.forwarding.specs.Turn.{LAST}

last_at : (former : List Batch) (batch : Batch) → slice_get (former ++ batch ∷ []) (length former) ≡ Some batch
last_at [] batch = refl
last_at (first ∷ former) batch = last_at former batch

-- it is the last of the history
pub stored_last : (history former : List Batch) (batch : Batch) → history ≡ former ++ batch ∷ [] → IsStored (storing (Some batch) counters.Stored) history counters.Stored
stored_last history former batch is =
    let all = former ++ batch ∷ [] in
    let at : length all - 1 ≡ length former = omega (arith, length-append former (batch ∷ [])) in
    subst (λ (h : List Batch). IsStored (storing (Some batch) counters.Stored) h counters.Stored) (sym is) (record {
      counted = refl;
      placed = true;
      kept = (omega (arith, length-append former (batch ∷ [])), ap (slice_get all) at ∙ last_at former batch);
    })

-- or there was no number left for it, or no memory
module _ {g : Ghosts Held Batch (Unit {0})} where
  pub stored_not : (before after : Seat Held Batch (Unit {0}) g) (batch : Batch) (fault : CacheFault) (counter : Counter) → g.BATCHES ≡ LAST → NotPlaced before after batch fault → (fault ≡ OutOfMemory → ⊥) → counter ≡ counters.Stored
      → IsStored (storing (Some batch) counters.Stored) (seen_by after) counter
  stored_not before after batch (NumbersSpent version) counter last not memory is = record { counted = is; placed = false; kept = sym not.version ∙ not.full ∙ last }
  stored_not before after batch OutOfMemory counter last not memory is = absurd (memory refl)
