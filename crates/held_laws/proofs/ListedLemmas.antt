-- Each listed chain has a record, and each denial record's chain is listed.
use Rattle.std.proofs.Common.{◌≡◌, Bool, true, false, not, true≢false, ◌⊎◌, inl, inr, List, [], ◌∷◌, ◌++◌, cond, Contains, filter, Option, Some, None, refl, sym, ◌∙◌, ap, subst}
use Rattle.std.specs.List.{list_any}
use Rattle.std.proofs.lemmas.Bool.{and_parts}
use Rattle.std.proofs.lemmas.List.Elements.{Contains-push, Contains-append_left, Contains-push_cases}
use Rattle.std.proofs.lemmas.Option.{none-some, same_Some}
use Rattle.dname.proofs.SameLemmas.{name_equal}
use Rattle.denial_records.specs.declared.batch.Batch.{Batch}
use Rattle.denial_records.specs.declared.record.Record.{Record}
use Rattle.denial_records.specs.declared.record.Record.TheVariants.{Set, Nsec, Nsec3}
use Rattle.cache_meaning.specs.Held.{Held, ZoneChain, NsecChain, Nsec3Chain, parameters_of, same_zone_chain, chain_of, is_that_chain, is_of_chain, is_usable, displaces, held_where, without_chain, without_third, with_new_chain, with_chain, held_with, held_after, held_of}
use Rattle.cache_meaning.proofs.ChainLemmas.{parameters_equal, zone_chain_equal, of_chain, is_of_it}
use Rattle.facts.proofs.Filters.{kept, was_kept}
use Rattle.facts.proofs.Lists.{here, there, here_or_there, nothing_in}
use Rattle.held_laws.specs.HeldLaws.{EachChainHasARecord, EachRecordIsListed}
use Rattle.held_laws.proofs.ListLemmas.{found, is_found}
use Rattle.held_laws.proofs.KeptLemmas.{fold_keeps, held_keeps}

-- ---- the two laws together

pub record Listed (held : Held) : Type 0 where
  pub has_record : EachChainHasARecord held
  pub is_listed : EachRecordIsListed held

where_listed : (test : Record → Bool) (held : Held) → Listed held → Listed (held_where test held)
where_listed test held l =
    let records = filter test held.records in
    let held_one = λ (chain : ZoneChain). list_any (is_of_chain chain) records in
    record {
      has_record = λ chain has.
          let one = found (is_of_chain chain) records (was_kept held_one held.chains chain has).1 in
          (one.0, one.1, of_chain chain one.0 one.2);
      is_listed = λ item chain has is.
          kept held_one held.chains chain (l.is_listed item chain (was_kept test held.records item has).0 is) (is_found (is_of_chain chain) records item has (is_of_it chain item is));
    }

without_listed : (gone : ZoneChain) (held : Held) → Listed held → Listed (without_chain gone held)
without_listed gone held l =
    let stays = λ (item : Record). not (is_of_chain gone item) in
    let other = λ (chain : ZoneChain). not (same_zone_chain gone chain) in
    record {
      has_record = λ chain has.
          let was = was_kept other held.chains chain has in
          let one = l.has_record chain was.0 in
          (one.0, kept stays held.records one.0 one.1 (rw one.2 was.1), one.2);
      is_listed = λ item chain has is.
          let was = was_kept stays held.records item has in
          let apart : other chain ≡ true = subst (λ c. not (is_that_chain gone c) ≡ true) is was.1 in
          kept other held.chains chain (l.is_listed item chain was.0 is) apart;
    }

third_listed : (third : Option ZoneChain) (held : Held) → Listed held → Listed (without_third third held)
third_listed None held l = l
third_listed (Some gone) held l = without_listed gone held l

-- what a denial record displaces is of its chain
pub chain_displaced : (new old : Record) (chain : ZoneChain) → displaces new old ≡ true → chain_of old ≡ Some chain → chain_of new ≡ Some chain
chain_displaced (Set new) (Set old) chain is of = absurd (none-some _ of)
chain_displaced (Set new) (Nsec old) chain is of = absurd (true≢false (sym is))
chain_displaced (Set new) (Nsec3 old) chain is of = absurd (true≢false (sym is))
chain_displaced (Nsec new) (Set old) chain is of = absurd (true≢false (sym is))
chain_displaced (Nsec new) (Nsec old) chain is of = ap (λ zone. Some (record { zone = zone; chain = NsecChain })) (name_equal new.zone old.zone (and_parts _ _ is).0) ∙ of
chain_displaced (Nsec new) (Nsec3 old) chain is of = absurd (true≢false (sym is))
chain_displaced (Nsec3 new) (Set old) chain is of = absurd (true≢false (sym is))
chain_displaced (Nsec3 new) (Nsec old) chain is of = absurd (true≢false (sym is))
chain_displaced (Nsec3 new) (Nsec3 old) chain is of =
    let zones = name_equal new.zone old.zone (and_parts _ _ is).0 in
    let hashes = parameters_equal (parameters_of new) (parameters_of old) (and_parts _ _ (and_parts _ _ is).1).0 in
    (λ i. Some (record { zone = zones i; chain = Nsec3Chain (hashes i) })) ∙ of

-- the records with the new one last, in place of those that it displaces
abbrev placed : Held → Record → List Record
placed held new = filter (λ old. not (displaces new old)) held.records ++ new ∷ []

-- each listed chain still has a record there
still_has : (held : Held) (new : Record) → EachChainHasARecord held → EachChainHasARecord (record { records = placed held new; chains = held.chains })
still_has held new has chain listed = by (displaces new one.0) refl
  where
    one : (item : Record) × Contains held.records item × (chain_of item ≡ Some chain)
    one = has chain listed

    stays : Record → Bool
    stays old = not (displaces new old)

    by : (b : Bool) → displaces new one.0 ≡ b → (item : Record) × Contains (placed held new) item × (chain_of item ≡ Some chain)
    by true is = (new, Contains-push (filter stays held.records) new, chain_displaced new one.0 chain is one.2)
    by false is = (one.0, Contains-append_left (filter stays held.records) (new ∷ []) one.0 (kept stays held.records one.0 one.1 (ap not is)), one.2)

old_or_new : (held : Held) (new item : Record) → Contains (placed held new) item → Contains held.records item ⊎ (new ≡ item)
old_or_new held new item has = by (Contains-push_cases (filter stays held.records) new item has)
  where
    stays : Record → Bool
    stays old = not (displaces new old)

    by : Contains (filter stays held.records) item ⊎ (new ≡ item) → Contains held.records item ⊎ (new ≡ item)
    by (inl h) = inl (was_kept stays held.records item h).0
    by (inr same) = inr same

-- where the list of chains has the old ones and the new record's, each record's is listed
all_listed : (held : Held) (new : Record) (chains : List ZoneChain) → EachRecordIsListed held → ((chain : ZoneChain) → Contains held.chains chain → Contains chains chain) → ((chain : ZoneChain) → chain_of new ≡ Some chain → Contains chains chain)
    → EachRecordIsListed (record { records = placed held new; chains = chains })
all_listed held new chains listed more own item chain has is = by (old_or_new held new item has)
  where
    by : Contains held.records item ⊎ (new ≡ item) → Contains chains chain
    by (inl h) = more chain (listed item chain h is)
    by (inr same) = own chain (ap chain_of same ∙ is)

with_listed : (held : Held) (new : Record) → Listed held → Listed (held_with held new)
with_listed held new l = by_chain (chain_of new) refl
  where
    put : Held
    put = record { records = placed held new; chains = held.chains }

    by_chain : (its : Option ZoneChain) → chain_of new ≡ its → Listed (with_chain its put)
    by_chain None is = record {
      has_record = still_has held new l.has_record;
      is_listed = all_listed held new held.chains l.is_listed (λ chain h. h) (λ chain of. absurd (none-some _ (sym is ∙ of)));
    }
    by_chain (Some its) is = by_listed (list_any (same_zone_chain its) held.chains) refl
      where
        is_its : (chain : ZoneChain) → chain_of new ≡ Some chain → its ≡ chain
        is_its chain of = same_Some _ _ (sym is ∙ of)

        by_listed : (b : Bool) → list_any (same_zone_chain its) held.chains ≡ b → Listed (cond b put (with_new_chain its put))
        by_listed true already =
            let one = found (same_zone_chain its) held.chains already in
            record {
              has_record = still_has held new l.has_record;
              is_listed = all_listed held new held.chains l.is_listed (λ chain h. h) (λ chain of.
                  subst (Contains held.chains) (sym (zone_chain_equal its one.0 one.2) ∙ is_its chain of) one.1);
            }
        by_listed false not_yet = third_listed _ (record { records = placed held new; chains = its ∷ held.chains }) (record {
          has_record = λ chain has. first chain (here_or_there its held.chains chain has);
          is_listed = all_listed held new (its ∷ held.chains) l.is_listed (there its held.chains) (λ chain of.
              subst (Contains (its ∷ held.chains)) (is_its chain of) (here its held.chains));
        })
          where
            first : (chain : ZoneChain) → (its ≡ chain) ⊎ Contains held.chains chain → (item : Record) × Contains (placed held new) item × (chain_of item ≡ Some chain)
            first chain (inl same) = (new, Contains-push _ new, is ∙ ap (λ c. Some c) same)
            first chain (inr h) = still_has held new l.has_record chain h

after_listed : (held : Held) (batch : Batch) → Listed held → Listed (held_after held batch)
after_listed held batch l =
    where_listed _ _ (fold_keeps Listed held_with with_listed _ batch.records (where_listed (is_usable batch.now) held l))

pub all_are_listed : (batches : List Batch) → Listed (held_of batches)
all_are_listed = held_keeps Listed (record { has_record = λ chain has. absurd (nothing_in chain has); is_listed = λ item chain has is. absurd (nothing_in item has) }) after_listed
