-- What the plain store keeps of held records.
use Rattle.std.proofs.Common.{◌≡◌, ℕ, Bool, true, false, List, [], ◌∷◌, map, filter, Option, Some, None, refl, ap, cond, slice_get, length, drop, get_or, ◌++◌, ◌+◌, ◌<◌, arith}
use Rattle.std.proofs.lemmas.Grind.{common_steps}
use Rattle.std.proofs.lemmas.Option.{slice_get_within, get_or_from_slice_get}
use Rattle.std.specs.List.{find}
use Rattle.dname.specs.Name.{Label}
use Rattle.dname.specs.Tests.{same_name}
use Rattle.cache_meaning.specs.Zones.{self_and_above}
use Rattle.cache_meaning.specs.Held.{Held, ZoneChain, third_of, without_chain, without_third, with_new_chain}

-- those of the values that pass are the values of those whose value passes
pub filter-map : {A B : Type 0} (f : A → B) (p : B → Bool) (xs : List A) → filter p (map f xs) ≡ map f (filter (λ x. p (f x)) xs)
filter-map f p [] = refl
filter-map {A} {B} f p (x ∷ xs) = step (p (f x)) (filter p (map f xs)) (filter (λ y. p (f y)) xs) (filter-map f p xs)
  where
    step : (b : Bool) (ys : List B) (zs : List A) → ys ≡ map f zs → cond b (f x ∷ ys) ys ≡ map f (cond b (x ∷ zs) zs)
    step true ys zs same = ap (λ (l : List B). f x ∷ l) same
    step false ys zs same = same

-- the third is the one at place 2
pub third_is_third : {A : Type 0} (xs : List A) → third_of xs ≡ slice_get xs 2
third_is_third [] = refl
third_is_third (x ∷ []) = refl
third_is_third (x ∷ y ∷ []) = refl
third_is_third (x ∷ y ∷ z ∷ rest) = refl

-- one more value is looked at, and kept or not
pub kept_one_more : {A B : Type 0} (f : A → B) (p : B → Bool) (xs ys zs : List A) (all : List B) (i : ℕ) (x y : A) → i < length xs → x ≡ get_or xs i x
    → p (f x) ≡ true → f y ≡ f x → zs ≡ ys ++ y ∷ []
    → map f ys ++ filter p (map f (drop i xs)) ≡ all → map f zs ++ filter p (map f (drop (i + 1) xs)) ≡ all
kept_one_more f p xs ys zs all i x y within is passes same more so_far = grind (arith, common_steps)

pub passed_over : {A B : Type 0} (f : A → B) (p : B → Bool) (xs ys : List A) (all : List B) (i : ℕ) (x : A) → i < length xs → x ≡ get_or xs i x → p (f x) ≡ false
    → map f ys ++ filter p (map f (drop i xs)) ≡ all → map f ys ++ filter p (map f (drop (i + 1) xs)) ≡ all
passed_over f p xs ys all i x within is fails so_far = grind (arith, common_steps)

-- the list from a place on begins with what is there
pub drop_here : {A : Type 0} (xs : List A) (i : ℕ) (x : A) → slice_get xs i ≡ Some x → drop i xs ≡ x ∷ drop (i + 1) xs
drop_here xs i x is = grind (arith, common_steps, slice_get_within xs i x is, get_or_from_slice_get xs i x x is)

-- a zone's third chain goes when a new one comes
pub third_goes : (new third : ZoneChain) (held : Held) → Some third ≡ third_of (filter (λ chain. same_name chain.zone new.zone) (new ∷ held.chains))
    → without_chain third (record { records = held.records; chains = new ∷ held.chains }) ≡ with_new_chain new held
third_goes new third held is = ap (λ (chain : Option ZoneChain). without_third chain (record { records = held.records; chains = new ∷ held.chains })) is

-- a name that passes is the first of itself and the names above it
pub found_here : (p : List Label → Bool) (name : List Label) → p name ≡ true → find p (self_and_above name) ≡ Some name
found_here p [] passes = ap (λ b. cond b (Some []) None) passes
found_here p (label ∷ rest) passes = ap (λ b. cond b (Some (label ∷ rest)) (find p (self_and_above rest))) passes
