use Rattle.std.proofs.Common.{◌≡◌, ◌++◌, All, length}
use Rattle.std.specs.List.{flat_map}
use Rattle.std.specs.Vec.Iter.{into_iter_items, into_iter_len}
use mathlib.Core.List.{IsPrefix}
use Rattle.cache_versions.specs.Hands.{in_hand}
use Rattle.cache_versions.specs.Kin.{journal_of}
use Rattle.cache_versions.specs.Dealers.{IsHandOf}
use Rattle.cache_versions.specs.Seats.{places_by, seen_by}
use Rattle.cache_versions.proofs.shared.Shared.close.Given as goal

abbrev pub invariant-loop-seat : goal.invariant-loop-seat
invariant-loop-seat g l =
    (l.yielded ++ into_iter_items l.seat-iterator ≡ into_iter_items l.initial.seat-iterator)
    × (into_iter_len l.seat-iterator ≡ length (into_iter_items l.seat-iterator))
    × All (λ s. IsPrefix (seen_by s) (journal_of l.held.recorded)) l.yielded
    × (l.all.me.0 ≡ in_hand (length l.yielded) (flat_map places_by l.yielded))
    × IsHandOf l.dealer l.all
