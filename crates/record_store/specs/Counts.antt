-- No public clause cites this module: how many sets each zone has.
use Rattle.std.specs.Prelude.{◌≡◌, ◌<◌, ℕ, List, length, filter, Option, Some, None}
use Rattle.std.specs.List.{Contains}
use Rattle.std.specs.Cmp.{IsTotalOrder}
use Rattle.std.specs.declared.cmp.Ordering.{Ordering}
use Rattle.std.specs.declared.cmp.Ordering.TheVariants.{Less}
use Rattle.std.proofs.lemmas.Cmp.{on_total}
use Rattle.dname.specs.Name.{Label, canonical_cmp}
use Rattle.dname.specs.Order.{canonical_total}
use Rattle.dname.specs.Tests.{same_name}
use Rattle.denial_records.specs.declared.record.Record.{Record}
use Rattle.cache_meaning.specs.Held.{zone_of}
use Rattle.ordered_list.specs.Order.{IsInOrder, entry_at}
use Rattle.ordered_list.proofs.RiseLemmas.{none_rises}
use Rattle.record_store.specs.Ranks.{set_cmp}
use Rattle.record_store.specs.declared.counts.SetCount.{SetCount}

-- how many of the sets are of the zone
abbrev pub count_of : List Label → List Record → ℕ
count_of apex sets = length (filter (λ item. same_name (zone_of item) apex) sets)

-- counts by the apexes of their zones
abbrev pub count_cmp : SetCount → SetCount → Ordering
count_cmp one other = canonical_cmp one.apex other.apex

pub counts_total : IsTotalOrder count_cmp
counts_total = on_total (λ (each : SetCount). each.apex) canonical_total

-- all have one number
pub counts_rise : (one other : SetCount) → 0 < 0 → count_cmp one other ≡ Less
counts_rise one other less = none_rises 0 (count_cmp one other) less

-- the count of a zone that is listed, and none of another
abbrev pub count_in : Option SetCount → ℕ
count_in None = 0
count_in (Some each) = each.count

abbrev pub count_at : List Label → List SetCount → ℕ
count_at apex counts = count_in (entry_at count_cmp (record { apex = apex; count = 0 }) counts)

-- the sets are in order, each zone is listed with the number of its sets, and no zone that has none
pub record AreCounted (sets : List Record) (counts : List SetCount) : Type 0 where
  pub in_order : IsInOrder set_cmp sets
  pub exact : (apex : List Label) → count_at apex counts ≡ count_of apex sets
  pub some : (each : SetCount) → Contains counts each → 0 < each.count

-- one zone has another count, and the others have theirs
pub record IsRecounted (apex : List Label) (count : ℕ) (counts made : List SetCount) : Type 0 where
  pub its : count_at apex made ≡ count
  pub others : (other : List Label) → (other ≡ apex → ⊥) → count_at other made ≡ count_at other counts
  pub some :
      ((each : SetCount) → Contains counts each → 0 < each.count)
      → (each : SetCount) → Contains made each → 0 < each.count
