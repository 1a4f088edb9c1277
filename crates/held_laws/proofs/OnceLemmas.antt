-- No chain is listed twice.
use Rattle.std.proofs.Common.{◌≡◌, Bool, true, false, not, true≢false, List, ◌∷◌, cond, get_or, All, Option, Some, None, refl, sym, ◌∙◌, arith}
use Rattle.std.specs.List.{list_any}
use Rattle.std.proofs.lemmas.List.Kept.{AllPairs-cons, AllPairs-filter}
use Rattle.std.proofs.lemmas.List.Folds.{list_any_at}
use Rattle.denial_records.specs.declared.batch.Batch.{Batch}
use Rattle.cache_meaning.specs.Held.{Held, ZoneChain, same_zone_chain, chain_of, is_usable, held_where, without_third, with_new_chain, with_chain, held_with, held_after, held_of}
use Rattle.held_laws.specs.HeldLaws.{EachListedOnce}
use Rattle.held_laws.proofs.KeptLemmas.{fold_keeps, held_keeps}

none_passes : {X : Type 0} (p : X → Bool) (xs : List X) → list_any p xs ≡ false → All (λ x. p x ≡ false) xs
none_passes p xs is i d within = by (p (get_or xs i d)) refl
  where
    by : (b : Bool) → p (get_or xs i d) ≡ b → p (get_or xs i d) ≡ false
    by true passes = absurd (true≢false (sym (list_any_at p xs i d within passes) ∙ is))
    by false fails = fails

with_once : (its : Option ZoneChain) (held : Held) → EachListedOnce held.chains → EachListedOnce (with_chain its held).chains
with_once None held once = once
with_once (Some new) held once = by (list_any (same_zone_chain new) held.chains) refl
  where
    third : (gone : Option ZoneChain) → EachListedOnce (new ∷ held.chains) → EachListedOnce (without_third gone (record { records = held.records; chains = new ∷ held.chains })).chains
    third None all = all
    third (Some gone) all = AllPairs-filter (λ one other. same_zone_chain one other ≡ false) (λ other. not (same_zone_chain gone other)) (new ∷ held.chains) all

    by : (b : Bool) → list_any (same_zone_chain new) held.chains ≡ b → EachListedOnce (cond b held (with_new_chain new held)).chains
    by true is = once
    by false is = third _ (AllPairs-cons (λ one other. same_zone_chain one other ≡ false) new held.chains (none_passes (same_zone_chain new) held.chains is) once)

pub after_once : (held : Held) (batch : Batch) → EachListedOnce held.chains → EachListedOnce (held_after held batch).chains
after_once held batch once =
    AllPairs-filter (λ one other. same_zone_chain one other ≡ false) _ _
    (fold_keeps (λ (h : Held). EachListedOnce h.chains) held_with (λ h new all. with_once (chain_of new) _ all) (held_where (is_usable batch.now) held) batch.records
    (AllPairs-filter (λ one other. same_zone_chain one other ≡ false) _ held.chains once))

pub all_once : (batches : List Batch) → EachListedOnce (held_of batches).chains
all_once = held_keeps (λ (h : Held). EachListedOnce h.chains) (λ i j d below within. absurd (omega arith)) after_once
