-- No record that is held after a batch has expired at its moment.
use Rattle.std.proofs.Common.{Bool, true, false, List, [], ◌∷◌, ◌++◌, cond, not, All, filter, fold, Option, Some, None, sym, subst}
use Rattle.std.specs.List.{list_any}
use Rattle.std.proofs.lemmas.List.Elements.{All-filter, All-push, All-head, All-tail, filter_passes}
use Rattle.std.proofs.lemmas.List.Sums.{fold-append}
use Rattle.denial_records.specs.declared.batch.Batch.{Batch}
use Rattle.denial_records.specs.declared.record.Record.{Record}
use Rattle.cache_meaning.specs.Held.{Held, ZoneChain, chain_of, same_zone_chain, is_usable, displaces, held_where, without_third, with_new_chain, with_chain, held_with, held_after, nothing_held, held_of}
use Rattle.held_laws.specs.HeldLaws.{IsUsableAt}

-- where each filter of the records keeps P, so does a chain that comes
pub with_chain_keeps : (P : List Record → Type 0) → ((test : Record → Bool) (records : List Record) → P records → P (filter test records)) → (its : Option ZoneChain) (held : Held) → P held.records → P (with_chain its held).records
with_chain_keeps P filtered None held holds = holds
with_chain_keeps P filtered (Some new) held holds = by (list_any (same_zone_chain new) held.chains)
  where
    third : (gone : Option ZoneChain) → P (without_third gone (record { records = held.records; chains = new ∷ held.chains })).records
    third None = holds
    third (Some gone) = filtered _ held.records holds

    by : (b : Bool) → P (cond b held (with_new_chain new held)).records
    by true = holds
    by false = third _

module _ (P : Record → Type 0) where
  with_all : (held : Held) (new : Record) → All P held.records → P new → All P (held_with held new).records
  with_all held new all one =
      with_chain_keeps (All P) (λ test records h. All-filter test P records h) (chain_of new) _
      (All-push P _ new (All-filter (λ old. not (displaces new old)) P held.records all) one)

  all_with : (records : List Record) (held : Held) → All P held.records → All P records → All P (fold held_with held records).records
  all_with [] held all each = all
  all_with (new ∷ records) held all each = all_with records (held_with held new) (with_all held new all (All-head P new records each)) (All-tail P new records each)

after_usable : (held : Held) (batch : Batch) → All (IsUsableAt batch.now) batch.records → All (IsUsableAt batch.now) (held_after held batch).records
after_usable held batch each =
    All-filter _ (IsUsableAt batch.now) _
    (all_with (IsUsableAt batch.now) batch.records (held_where (is_usable batch.now) held) (filter_passes (is_usable batch.now) held.records) each)

pub last_usable : (batches : List Batch) (batch : Batch) → All (IsUsableAt batch.now) batch.records → All (IsUsableAt batch.now) (held_of (batches ++ batch ∷ [])).records
last_usable batches batch each =
    subst (λ (held : Held). All (IsUsableAt batch.now) held.records) (sym (fold-append held_after nothing_held batches (batch ∷ [])))
    (after_usable (held_of batches) batch each)
