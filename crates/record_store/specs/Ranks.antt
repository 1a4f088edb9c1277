-- No public clause cites this module: the orders in which a store keeps its records and zones.
use Rattle.std.specs.Prelude.{◌≡◌, ◌<◌}
use Rattle.std.specs.Ordering.{nat_cmp, ordering_then}
use Rattle.std.specs.Cmp.{IsTotalOrder}
use Rattle.std.specs.declared.cmp.Ordering.{Ordering}
use Rattle.std.specs.declared.cmp.Ordering.TheVariants.{Less}
use Rattle.std.proofs.lemmas.Cmp.{then_total, on_total, nat_cmp_total}
use Rattle.dname.specs.Name.{canonical_cmp}
use Rattle.dname.specs.Order.{canonical_total}
use Rattle.denial_records.specs.declared.record.Record.{Record}
use Rattle.cache_meaning.specs.Held.{expiry_of, key_cmp}
use Rattle.held_laws.proofs.RankLemmas.{key_total}
use Rattle.ordered_list.proofs.RiseLemmas.{less_first, none_rises}
use Rattle.zone_chains.specs.Zone.{OneZone}
use Rattle.record_store.specs.Marks.{set_mark}

-- what expires first goes first, and of several the first in the order of keys
abbrev pub going_cmp : Record → Record → Ordering
going_cmp one other = ordering_then (nat_cmp (expiry_of one) (expiry_of other)) (key_cmp one other)

-- sets by the numbers by which they are sought, those of one number by their keys
abbrev pub set_cmp : Record → Record → Ordering
set_cmp one other = ordering_then (nat_cmp (set_mark one) (set_mark other)) (key_cmp one other)

-- zones by their apex
abbrev pub apex_cmp : OneZone → OneZone → Ordering
apex_cmp one other = canonical_cmp one.apex other.apex

-- all are total
pub keys_total : IsTotalOrder key_cmp
keys_total = key_total

pub sets_total : IsTotalOrder set_cmp
sets_total = then_total (on_total set_mark nat_cmp_total) key_total

pub goings_total : IsTotalOrder going_cmp
goings_total = then_total (on_total expiry_of nat_cmp_total) key_total

pub apexes_total : IsTotalOrder apex_cmp
apexes_total = on_total (λ (zone : OneZone). zone.apex) canonical_total

-- what has a lesser number goes before
pub sets_rise : (one other : Record) → set_mark one < set_mark other → set_cmp one other ≡ Less
sets_rise one other less = less_first (set_mark one) (set_mark other) (key_cmp one other) less

pub goings_rise : (one other : Record) → expiry_of one < expiry_of other → going_cmp one other ≡ Less
goings_rise one other less = less_first (expiry_of one) (expiry_of other) (key_cmp one other) less

-- all zones have one number
pub apexes_rise : (one other : OneZone) → 0 < 0 → apex_cmp one other ≡ Less
apexes_rise one other less = none_rises 0 (apex_cmp one other) less
