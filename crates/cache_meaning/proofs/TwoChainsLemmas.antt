-- A zone has two chains at most, in every state that batches make.
use Rattle.std.proofs.Common.{◌≡◌, ◌≤◌, Bool, true, false, not, List, [], ◌∷◌, length, filter, fold, Option, Some, None, refl, ap, sym, ◌∙◌, cond, arith}
use Rattle.std.specs.List.{list_any}
use Rattle.std.proofs.lemmas.List.{length-map}
use Rattle.dname.specs.Name.{Label}
use Rattle.dname.specs.Tests.{same_name}
use Rattle.dname.proofs.SameLemmas.{name_equal}
use Rattle.denial_records.specs.declared.batch.Batch.{Batch}
use Rattle.denial_records.specs.declared.record.Record.{Record}
use Rattle.cache_meaning.specs.Held.{Held, ZoneChain, same_zone_chain, chain_of, third_of, is_usable, goes, held_where, without_third, with_new_chain, with_chain, held_with, within_limit, held_after}
use Rattle.cache_meaning.specs.Zones.{TwoChains}
use Rattle.cache_meaning.proofs.ChainLemmas.{zone_chain_itself}
use Rattle.facts.proofs.Filters.{filters_commute}

-- ---- lists

shorter : {A : Type 0} (p q : A → Bool) (xs : List A) → length (filter p (filter q xs)) ≤ length (filter p xs)
shorter p q [] = omega arith
shorter {A} p q (x ∷ xs) = step (p x) (q x) refl (shorter p q xs)
  where
    step : (b d : Bool) → p x ≡ b → length (filter p (filter q xs)) ≤ length (filter p xs) → length (filter p (cond d (x ∷ filter q xs) (filter q xs))) ≤ length (cond b (x ∷ filter p xs) (filter p xs))
    step true true is h = rw is (omega arith)
    step true false is h = omega arith
    step false true is h = rw is h
    step false false is h = h

-- of three, two stay at most where the third goes
two_stay : {A : Type 0} (q : A → Bool) (xs : List A) (third : A) → length xs ≤ 3 → third_of xs ≡ Some third → q third ≡ false → length (filter q xs) ≤ 2
two_stay q [] third few is goes = omega arith
two_stay q (x ∷ []) third few is goes = cc
two_stay q (x ∷ y ∷ []) third few is goes = cc
two_stay {A} q (x ∷ y ∷ z ∷ []) third few is goes = rw last (two (q x) (q y))
  where
    last : q z ≡ false
    last = cc

    two : (b d : Bool) → length (cond b (x ∷ cond d (y ∷ []) []) (cond d (y ∷ []) [])) ≤ 2
    two true true = omega arith
    two true false = omega arith
    two false true = omega arith
    two false false = omega arith
two_stay q (x ∷ y ∷ z ∷ w ∷ rest) third few is goes = absurd (omega arith)

none_third : {A : Type 0} (xs : List A) → third_of xs ≡ None → length xs ≤ 2
none_third [] is = omega arith
none_third (x ∷ []) is = omega arith
none_third (x ∷ y ∷ []) is = omega arith
none_third (x ∷ y ∷ z ∷ rest) is = cc

-- ---- chains

abbrev of_zone : List Label → ZoneChain → Bool
of_zone zone chain = same_name chain.zone zone

-- two chains of each zone at most
abbrev pub AtMostTwo : List ZoneChain → Type 0
AtMostTwo chains = (zone : List Label) → length (filter (of_zone zone) chains) ≤ 2

fewer : (q : ZoneChain → Bool) (chains : List ZoneChain) → AtMostTwo chains → AtMostTwo (filter q chains)
fewer q chains two zone = omega (arith, shorter (of_zone zone) q chains, two zone)

-- the new chain's zone has three with it, of which the third goes; the other zones have what they had
new_one : (new : ZoneChain) (chains : List ZoneChain) (records : List Record) (third : Option ZoneChain) → AtMostTwo chains → third_of (filter (of_zone new.zone) (new ∷ chains)) ≡ third
    → AtMostTwo (without_third third (record { records = records; chains = new ∷ chains })).chains
new_one new chains records third two is zone = by (same_name new.zone zone) refl third is
  where
    by : (b : Bool) → same_name new.zone zone ≡ b → (third : Option ZoneChain) → third_of (filter (of_zone new.zone) (new ∷ chains)) ≡ third
        → length (filter (of_zone zone) (without_third third (record { records = records; chains = new ∷ chains })).chains) ≤ 2
    by true same None is =
        let zones : new.zone ≡ zone = name_equal new.zone zone same in
        none_third _ (ap (λ (z : List Label). third_of (filter (of_zone z) (new ∷ chains))) (sym zones) ∙ is)
    by true same (Some third) is =
        let zones : new.zone ≡ zone = name_equal new.zone zone same in
        let few : length (filter (of_zone zone) (new ∷ chains)) ≤ 3 = rw same (omega (arith, two zone)) in
        let goes = λ (other : ZoneChain). not (same_zone_chain third other) in
        rw (filters_commute (of_zone zone) goes (new ∷ chains))
        (two_stay goes (filter (of_zone zone) (new ∷ chains)) third few (ap (λ (z : List Label). third_of (filter (of_zone z) (new ∷ chains))) (sym zones) ∙ is) (ap not (zone_chain_itself third)))
    by false other None is = rw other (two zone)
    by false other (Some third) is =
        let goes = λ (other : ZoneChain). not (same_zone_chain third other) in
        let kept : length (filter (of_zone zone) (new ∷ chains)) ≤ 2 = rw other (two zone) in
        omega (arith, shorter (of_zone zone) goes (new ∷ chains), kept)

with_one : (new : Option ZoneChain) (held : Held) → AtMostTwo held.chains → AtMostTwo (with_chain new held).chains
with_one None held two = two
with_one (Some new) held two = by (list_any (same_zone_chain new) held.chains)
  where
    by : (b : Bool) → AtMostTwo (cond b held (with_new_chain new held)).chains
    by true = two
    by false = new_one new held.chains held.records (third_of (filter (of_zone new.zone) (new ∷ held.chains))) two refl

all_of : (records : List Record) (held : Held) → AtMostTwo held.chains → AtMostTwo (fold held_with held records).chains
all_of [] held two = two
all_of (new ∷ records) held two = all_of records (held_with held new) (with_one (chain_of new) _ two)

-- a batch keeps them two
pub two_chains_after : (held : Held) (batch : Batch) → TwoChains held → TwoChains (held_after held batch)
two_chains_after held batch two zone = rw (length-map _ _) (last zone)
  where
    before : AtMostTwo held.chains
    before z = omega (arith, length-map (filter (of_zone z) held.chains) (λ (each : ZoneChain). each.chain), two z)

    first : Held
    first = held_where (is_usable batch.now) held

    put : Held
    put = fold held_with first batch.records

    last : AtMostTwo (within_limit put).chains
    last = fewer _ put.chains (all_of batch.records first (fewer _ held.chains before))
