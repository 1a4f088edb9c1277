-- From what an insert met to what the seat had seen.
use Rattle.std.proofs.Common.{List, [], ◌∷◌, sym, ap, subst, Result, Ok, Err}
use mathlib.Core.List.{IsPrefix}
use Rattle.cache_versions.specs.declared.state.State.{Ghosts}
use Rattle.cache_versions.specs.declared.version.Recorded.{Recorded}
use Rattle.cache_versions.specs.declared.seat.Seat.{Seat}
use Rattle.cache_versions.specs.declared.place.Placed.{Placed}
use Rattle.cache_versions.specs.declared.place.InsertFault.{InsertFault}
use Rattle.cache_versions.specs.declared.place.InsertFault.TheVariants.{NumbersSpent, Refused, OutOfMemory}
use Rattle.cache_versions.specs.Kin.{IsSame, journal_of}
use Rattle.cache_versions.specs.Places.{IsAnswer}
use Rattle.cache_versions.specs.Seats.{kept_by, seen_by}
use Rattle.cache_versions.proofs.Fronts.{prefix_self, prefix_trans}

module _ {S B F : Type 0} {g : Ghosts S B F} (met : Recorded S B) (before after : Seat S B F g) (batch : B) where
  abbrev Answer : Type 0
  Answer = Result (Placed S B F g) (InsertFault F)

  same_prefix : IsPrefix (seen_by before) (journal_of met) → IsSame met (kept_by after) → IsPrefix (seen_by before) (seen_by after)
  same_prefix pre same = subst (λ (l : List B). IsPrefix (seen_by before) l) (sym (ap (λ c. c.1.log) same)) pre

  pub place_prefix : (r : Answer) → IsPrefix (seen_by before) (journal_of met) → IsAnswer met before after batch r → IsPrefix (seen_by before) (seen_by after)
  place_prefix (Ok p) pre h = prefix_trans (seen_by before) (journal_of met) (seen_by after) pre (batch ∷ [], sym h.seen)
  place_prefix (Err (NumbersSpent v)) pre h = same_prefix pre h.kept
  place_prefix (Err (Refused v f)) pre h = same_prefix pre h.kept
  place_prefix (Err OutOfMemory) pre h = subst (λ (r : Recorded S B). IsPrefix (seen_by before) (journal_of r)) (sym h.0) (prefix_self (seen_by before))
