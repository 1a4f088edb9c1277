-- A batch reads no order: of two states that hold the same, whatever their order, it makes two that hold the same.
use Rattle.std.proofs.Common.{◌≡◌, ◌-◌, nat_lt, Bool, true, false, not, List, [], ◌∷◌, cond, Contains, filter, map, fold, Option, Some, None, refl, sym, ◌∙◌, ap, subst}
use Rattle.std.specs.List.{list_any}
use Rattle.std.proofs.lemmas.List.Elements.{filter_agree}
use Rattle.std.proofs.lemmas.List.Kept.{AllPairs-filter}
use Rattle.dname.specs.Name.{Label}
use Rattle.dname.proofs.SameLemmas.{name_equal, name_itself}
use Rattle.denial_records.specs.declared.batch.Batch.{Batch}
use Rattle.denial_records.specs.declared.record.Record.{Record}
use Rattle.cache_meaning.specs.Held.{Held, ZoneChain, Chain, same_zone_chain, chain_of, is_of_chain, is_usable, displaces, third_of, goes_before, goes, most_records, held_where, without_third, with_new_chain, with_chain, held_with, within_limit, held_after}
use Rattle.facts.proofs.Filters.{kept, was_kept, filters_commute}
use Rattle.held_laws.specs.HeldLaws.{IsApart, NoneDisplaces, IsReordered}
use Rattle.held_laws.proofs.ListLemmas.{SameMembers, filtered, pushed}
use Rattle.held_laws.proofs.SameLemmas.{same_any}
use Rattle.held_laws.proofs.ApartLemmas.{with_apart, after_apart}
use Rattle.held_laws.proofs.KeyOrderLemmas.{in_zone, ListAlike, count_alike, length_alike}

-- ---- chains

-- a zone's chains are those that it lists
zone_chains : (zone : List Label) (xs : List ZoneChain) → map (λ (chain : Chain). record { zone = zone; chain = chain }) (map (λ (each : ZoneChain). each.chain) (filter (in_zone zone) xs)) ≡ filter (in_zone zone) xs
zone_chains zone [] = refl
zone_chains zone (x ∷ xs) = by (in_zone zone x) refl (zone_chains zone xs)
  where
    listed : List ZoneChain → List ZoneChain
    listed chains = map (λ (chain : Chain). record { zone = zone; chain = chain }) (map (λ (each : ZoneChain). each.chain) chains)

    by : (b : Bool) → in_zone zone x ≡ b → listed (filter (in_zone zone) xs) ≡ filter (in_zone zone) xs → listed (cond b (x ∷ filter (in_zone zone) xs) (filter (in_zone zone) xs)) ≡ cond b (x ∷ filter (in_zone zone) xs) (filter (in_zone zone) xs)
    by true is rest = λ i. record { zone = sym (name_equal x.zone zone is) i; chain = x.chain } ∷ rest i
    by false is rest = rest

pub list_alike : (held other : Held) → IsReordered held other → ListAlike held.chains other.chains
list_alike held other order zone =
    sym (zone_chains zone held.chains) ∙ ap (map (λ (chain : Chain). record { zone = zone; chain = chain })) (order.chains zone) ∙ zone_chains zone other.chains

pub reordered : (held other : Held) → SameMembers held.records other.records → ListAlike held.chains other.chains → IsReordered held other
reordered held other same alike = record { records = same; chains = λ zone. ap (map (λ (each : ZoneChain). each.chain)) (alike zone) }

in_both : (xs ys : List ZoneChain) → ListAlike xs ys → (chain : ZoneChain) → Contains xs chain → Contains ys chain
in_both xs ys alike chain has =
    (was_kept (in_zone chain.zone) ys chain (subst (λ (l : List ZoneChain). Contains l chain) (alike chain.zone) (kept (in_zone chain.zone) xs chain has (name_itself chain.zone)))).0

pub same_listed : (xs ys : List ZoneChain) → ListAlike xs ys → SameMembers xs ys
same_listed xs ys alike chain = (in_both xs ys alike chain, in_both ys xs (λ zone. sym (alike zone)) chain)

pub alike_filtered : (p q : ZoneChain → Bool) → ((chain : ZoneChain) → p chain ≡ q chain) → (xs ys : List ZoneChain) → ListAlike xs ys → ListAlike (filter p xs) (filter q ys)
alike_filtered p q agree xs ys alike zone =
    filters_commute (in_zone zone) p xs ∙ ap (filter p) (alike zone) ∙ filter_agree p q agree (filter (in_zone zone) ys) ∙ filters_commute q (in_zone zone) ys

alike_with : (xs ys : List ZoneChain) → ListAlike xs ys → (new : ZoneChain) → ListAlike (new ∷ xs) (new ∷ ys)
alike_with xs ys alike new zone = ap (λ (l : List ZoneChain). cond (in_zone zone new) (new ∷ l) l) (alike zone)

-- ---- the steps of a batch

pub where_alike : (test test' : Record → Bool) → ((item : Record) → test item ≡ test' item) → (held other : Held) → IsReordered held other → IsReordered (held_where test held) (held_where test' other)
where_alike test test' agree held other order =
    let records = filtered test test' agree held.records other.records order.records in
    reordered _ _ records (alike_filtered _ _ (λ chain. same_any (is_of_chain chain) (filter test held.records) (filter test' other.records) records) held.chains other.chains (list_alike held other order))

third_alike : (gone : Option ZoneChain) (held other : Held) → IsReordered held other → IsReordered (without_third gone held) (without_third gone other)
third_alike None held other order = order
third_alike (Some third) held other order =
    reordered _ _ (filtered (λ item. not (is_of_chain third item)) (λ item. not (is_of_chain third item)) (λ item. refl) held.records other.records order.records)
    (alike_filtered (λ chain. not (same_zone_chain third chain)) (λ chain. not (same_zone_chain third chain)) (λ chain. refl) held.chains other.chains (list_alike held other order))

new_chain_alike : (new : ZoneChain) (held other : Held) → IsReordered held other → IsReordered (with_new_chain new held) (with_new_chain new other)
new_chain_alike new held other order =
    subst (λ (gone : Option ZoneChain). IsReordered (with_new_chain new held) (without_third gone (with_it other))) (ap third_of (more new.zone))
    (third_alike (third_of (filter (in_zone new.zone) (new ∷ held.chains))) (with_it held) (with_it other) (reordered _ _ order.records more))
  where
    with_it : Held → Held
    with_it h = record { records = h.records; chains = new ∷ h.chains }

    more : ListAlike (new ∷ held.chains) (new ∷ other.chains)
    more = alike_with held.chains other.chains (list_alike held other order) new

chain_alike : (its : Option ZoneChain) (held other : Held) → IsReordered held other → IsReordered (with_chain its held) (with_chain its other)
chain_alike None held other order = order
chain_alike (Some new) held other order =
    subst (λ (b : Bool). IsReordered (with_chain (Some new) held) (cond b other (with_new_chain new other)))
    (same_any (same_zone_chain new) held.chains other.chains (same_listed held.chains other.chains (list_alike held other order)))
    (by (list_any (same_zone_chain new) held.chains))
  where
    by : (b : Bool) → IsReordered (cond b held (with_new_chain new held)) (cond b other (with_new_chain new other))
    by true = order
    by false = new_chain_alike new held other order

pub with_alike : (held other : Held) (new : Record) → IsReordered held other → IsReordered (held_with held new) (held_with other new)
with_alike held other new order =
    chain_alike (chain_of new) _ _ (reordered _ _ (pushed _ _ (filtered stays stays (λ old. refl) held.records other.records order.records) new) (list_alike held other order))
  where
    stays : Record → Bool
    stays old = not (displaces new old)

-- ---- the batch

-- no record displaces another, and the two hold the same
pub record Alike (held other : Held) : Type 0 where
  pub apart : NoneDisplaces held.records
  pub others_apart : NoneDisplaces other.records
  pub order : IsReordered held other

pub fold_both : {A B : Type 0} (R : A → A → Type 0) (f g : A → B → A) → ((a a' : A) (b : B) → R a a' → R (f a b) (g a' b)) → (a a' : A) (bs : List B) → R a a' → R (fold f a bs) (fold g a' bs)
fold_both R f g keeps a a' [] holds = holds
fold_both R f g keeps a a' (b ∷ bs) holds = fold_both R f g keeps (f a b) (g a' b) bs (keeps a a' b holds)

pub with_both : (held other : Held) (new : Record) → Alike held other → Alike (held_with held new) (held_with other new)
with_both held other new alike = record {
  apart = with_apart held new alike.apart;
  others_apart = with_apart other new alike.others_apart;
  order = with_alike held other new alike.order;
}

pub goes_alike : (held other : Held) → Alike held other → (item : Record) → goes held.records item ≡ goes other.records item
goes_alike held other alike item =
    λ i. nat_lt (count_alike (λ one. goes_before one item) held.records other.records alike.apart alike.others_apart alike.order.records i)
    (length_alike held.records other.records alike.apart alike.others_apart alike.order.records i - most_records)

pub limit_alike : (held other : Held) → Alike held other → IsReordered (within_limit held) (within_limit other)
limit_alike held other alike =
    where_alike (λ item. not (goes held.records item)) (λ item. not (goes other.records item)) (λ item. ap not (goes_alike held other alike item)) held other alike.order

pub after_reordered : (held other : Held) (batch : Batch) → NoneDisplaces held.records → NoneDisplaces other.records → IsReordered held other → IsReordered (held_after held batch) (held_after other batch)
after_reordered held other batch apart others_apart order =
    limit_alike _ _ (fold_both Alike held_with held_with with_both (held_where (is_usable batch.now) held) (held_where (is_usable batch.now) other) batch.records (record {
      apart = AllPairs-filter IsApart (is_usable batch.now) held.records apart;
      others_apart = AllPairs-filter IsApart (is_usable batch.now) other.records others_apart;
      order = where_alike (is_usable batch.now) (is_usable batch.now) (λ item. refl) held other order;
    }))

pub after_alike : (held other : Held) (batch : Batch) → Alike held other → Alike (held_after held batch) (held_after other batch)
after_alike held other batch alike = record {
  apart = after_apart held batch alike.apart;
  others_apart = after_apart other batch alike.others_apart;
  order = after_reordered held other batch alike.apart alike.others_apart alike.order;
}
