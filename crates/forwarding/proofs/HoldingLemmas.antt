-- What is held, by what is kept.
use Rattle.std.proofs.Common.{◌≡◌, ◌∙◌, List, [], length, refl, sym, ap, arith}
use mathlib.Core.List.{IsPrefix}
use Rattle.denial_records.specs.declared.batch.Batch.{Batch}
use Rattle.cache_meaning.specs.Held.{Held, held_of}
use Rattle.cache_versions.proofs.Fronts.{prefix_self, prefix_trans, prefix_whole}
use Rattle.held_laws.specs.KeyOrder.{in_key_order, kept_of, zone_cmp}
use Rattle.held_laws.proofs.KeyOrderLemmas.{length_alike}
use Rattle.held_laws.proofs.OrderedLemmas.{all_alike, one_in_key_order}
use Rattle.held_laws.proofs.SortLemmas.{sorted_length}
use Rattle.record_store.specs.Gauges.{zone_count}
use Rattle.record_store.proofs.GaugeLemmas.{zone_count_alike}
use Rattle.forwarding.specs.Holding.{WasHeld, holding_of}
use Rattle.forwarding.specs.declared.holding.Holding.{Holding}

module _ (seen : List Batch) (state : Held) (kept : state ≡ kept_of seen) where
  pub as_many : length state.records ≡ length (held_of seen).records
  as_many =
      let alike = all_alike seen in
      ap (λ (held : Held). length held.records) kept
      ∙ sym (length_alike (held_of seen).records (kept_of seen).records alike.apart alike.others_apart alike.order.records)

  pub as_many_zones : zone_count state.records ≡ zone_count (held_of seen).records
  as_many_zones =
      ap (λ (held : Held). zone_count held.records) kept
      ∙ sym (zone_count_alike (held_of seen).records (kept_of seen).records (all_alike seen).order.records)

  pub as_many_chains : length state.chains ≡ length (held_of seen).chains
  as_many_chains =
      let alike = all_alike seen in
      ap (λ (held : Held). length held.chains) kept
      ∙ sym (sorted_length zone_cmp (kept_of seen).chains)
      ∙ sym (ap (λ (held : Held). length held.chains) (one_in_key_order (held_of seen) (kept_of seen) alike.apart alike.others_apart alike.order))
      ∙ sorted_length zone_cmp (held_of seen).chains

-- ---- what was held

pub held_first : (holding : Holding) (seen : List Batch) → holding ≡ holding_of [] → WasHeld holding seen
held_first holding seen nothing = record { first = []; begins = (seen, refl); holding_is = nothing }

pub held_now : (holding : Holding) (seen : List Batch) → holding ≡ holding_of seen → WasHeld holding seen
held_now holding seen is = record { first = seen; begins = prefix_self seen; holding_is = is }

pub held_still : (holding : Holding) (seen more : List Batch) → IsPrefix seen more → WasHeld holding seen → WasHeld holding more
held_still holding seen more begins was = record { first = was.first; begins = prefix_trans was.first seen more was.begins begins; holding_is = was.holding_is }

-- a version of the same number is the same
pub held_same : (holding : Holding) (seen : List Batch) → WasHeld holding seen → holding.version ≡ length seen → holding ≡ holding_of seen
held_same holding seen was same =
    was.holding_is
    ∙ ap holding_of (prefix_whole was.first seen was.begins (omega (arith, sym (ap (λ (h : Holding). h.version) was.holding_is) ∙ same)))
