-- A seat that goes on, and goes on again.
use Rattle.std.proofs.Common.{◌≡◌, ◌∙◌, refl}
use mathlib.Core.List.{IsPrefix}
use Rattle.denial_records.specs.declared.batch.Batch.{Batch}
use Rattle.cache_meaning.specs.Held.{Held}
use Rattle.cache_versions.specs.declared.state.State.{Ghosts}
use Rattle.cache_versions.specs.declared.seat.Seat.{Seat}
use Rattle.cache_versions.specs.Seats.{IsSameSeat, number_by, seen_by}
use Rattle.cache_versions.proofs.Fronts.{prefix_self, prefix_trans}
use Rattle.resolver.specs.Caches.{HasGoneOn, HasOnlyRead, IsSeatOf}
use Rattle.resolver.specs.declared.shared_cache.SharedCache.{SharedCache}

module _ {g : Ghosts Held Batch (Unit {0})} where
  pub gone_on : (c : SharedCache) (s t : Seat Held Batch (Unit {0}) g) → IsSeatOf c t → number_by t ≡ number_by s → IsPrefix (seen_by s) (seen_by t) → HasGoneOn c s t
  gone_on c s t object number begins = record { object = object; number = number; begins = begins }

  pub gone_on_self : (c : SharedCache) (s : Seat Held Batch (Unit {0}) g) → IsSeatOf c s → HasGoneOn c s s
  gone_on_self c s object = gone_on c s s object refl (prefix_self (seen_by s))

  pub gone_on_then : (c : SharedCache) (s t u : Seat Held Batch (Unit {0}) g) → HasGoneOn c s t → HasGoneOn c t u → HasGoneOn c s u
  gone_on_then c s t u one two =
      gone_on c s u two.object (two.number ∙ one.number) (prefix_trans (seen_by s) (seen_by t) (seen_by u) one.begins two.begins)

  pub only_read : (c : SharedCache) (s t : Seat Held Batch (Unit {0}) g) → IsSeatOf c t → IsSameSeat s t → IsPrefix (seen_by s) (seen_by t) → HasOnlyRead c s t
  only_read c s t object same begins = record { on = gone_on c s t object same.0 begins; places = same.1 }

  pub only_read_self : (c : SharedCache) (s : Seat Held Batch (Unit {0}) g) → IsSeatOf c s → HasOnlyRead c s s
  only_read_self c s object = only_read c s s object (refl, refl) (prefix_self (seen_by s))

  pub only_read_then : (c : SharedCache) (s t u : Seat Held Batch (Unit {0}) g) → HasOnlyRead c s t → HasOnlyRead c t u → HasOnlyRead c s u
  only_read_then c s t u one two = record { on = gone_on_then c s t u one.on two.on; places = two.places ∙ one.places }
