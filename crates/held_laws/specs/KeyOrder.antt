-- A held state in the order of keys, as search structures hold it.
use Rattle.std.specs.Prelude.{◌≡◌, false, if◌then◌else◌, List, [], ◌∷◌, fold}
use Rattle.std.specs.List.{AllPairs}
use Rattle.std.specs.Ordering.{is_gt}
use Rattle.std.specs.declared.cmp.Ordering.{Ordering}
use Rattle.std.specs.declared.cmp.Ordering.TheVariants.{Less}
use Rattle.dname.specs.Name.{canonical_cmp}
use Rattle.denial_records.specs.declared.batch.Batch.{Batch}
use Rattle.denial_records.specs.declared.record.Record.{Record}
use Rattle.cache_meaning.specs.Held.{Held, ZoneChain, key_cmp, nothing_held, held_after}

-- the new item before the first that it doesn't come after
abbrev pub placed : {A : Type 0} → (A → A → Ordering) → A → List A → List A
placed cmp new [] = new ∷ []
placed cmp new (item ∷ rest) =
    if is_gt (cmp new item) then item ∷ placed cmp new rest else new ∷ item ∷ rest

-- the list in the order; items that tie keep their turn
abbrev pub sorted : {A : Type 0} → (A → A → Ordering) → List A → List A
sorted cmp [] = []
sorted cmp (item ∷ rest) = placed cmp item (sorted cmp rest)

-- chains by their zones alone
abbrev pub zone_cmp : ZoneChain → ZoneChain → Ordering
zone_cmp one other = canonical_cmp one.zone other.zone

-- each record comes before all that follow
abbrev pub IsInKeyOrder : List Record → Type 0
IsInKeyOrder records = AllPairs (λ one other. key_cmp one other ≡ Less) records

-- zones come in canonical order
abbrev pub IsInZoneOrder : List ZoneChain → Type 0
IsInZoneOrder chains = AllPairs (λ one other. is_gt (zone_cmp one other) ≡ false) chains

-- the records by their keys; the chains by their zones, each zone's in their turn
abbrev pub in_key_order : Held → Held
in_key_order held = record {
  records = sorted key_cmp held.records;
  chains = sorted zone_cmp held.chains;
}

-- what is kept of a state after a batch
abbrev pub kept_after : Held → Batch → Held
kept_after kept batch = in_key_order (held_after kept batch)

-- after all batches, in order
abbrev pub kept_of : List Batch → Held
kept_of batches = fold kept_after nothing_held batches
