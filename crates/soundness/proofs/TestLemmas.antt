-- What a test, an option and the first of several tell.
use Rattle.std.proofs.Common.{◌≡◌, Bool, true, false, cond, List, [], ◌∷◌, Option, None, Some, refl, subst, ◌⊎◌, inl, inr}
use Rattle.std.specs.Prelude.{not, if◌then◌else◌}
use Rattle.std.specs.List.{All, Contains, find}
use Rattle.std.specs.Option.{option_or, option_map}
use Rattle.std.proofs.lemmas.Bool.{false≢true}
use Rattle.std.proofs.lemmas.Option.{none-some, same_Some}
use Rattle.std.proofs.lemmas.List.Elements.{All-head, All-tail}
use Rattle.facts.proofs.Lists.{here, there}
use Rattle.cache_meaning.specs.Zones.{first_of}
use Rattle.cache_meaning.specs.Evidence.{that}

pub if_then : {T : Type 0} (b : Bool) (o : Option T) (y : T) → (if b then o else None) ≡ Some y → (b ≡ true) × (o ≡ Some y)
if_then true o y is = (refl, is)
if_then false o y is = absurd (none-some y is)

pub if_else : {T : Type 0} (b : Bool) (o : Option T) (y : T) → (if b then None else o) ≡ Some y → (b ≡ false) × (o ≡ Some y)
if_else true o y is = absurd (none-some y is)
if_else false o y is = (refl, is)

pub not_both : (b : Bool) → not b ≡ true → b ≡ true → ⊥
not_both true no' is = false≢true no'
not_both false no' is = false≢true is

pub either_of : {T : Type 0} (first other : Option T) (y : T) → option_or first other ≡ Some y → (first ≡ Some y) ⊎ (other ≡ Some y)
either_of None other y is = inr is
either_of (Some x) other y is = inl is

pub mapped : {A B : Type 0} (f : A → B) (o : Option A) (y : B) → option_map f o ≡ Some y → (x : A) × (o ≡ Some x) × (f x ≡ y)
mapped f None y is = absurd (none-some y is)
mapped f (Some x) y is = (x, refl, same_Some (f x) y is)

pub that_is : {A : Type 0} (test : A → Bool) (o : Option A) (x : A) → that test o ≡ Some x → (o ≡ Some x) × (test x ≡ true)
that_is test None x is = absurd (none-some x is)
that_is {A} test (Some y) x is =
    let passed = if_then (test y) (Some y) x is in
    (passed.1, found y (same_Some y x passed.1) passed.0)
  where
    found : (y : A) → y ≡ x → test y ≡ true → test x ≡ true
    found y same passed = subst (λ z. test z ≡ true) same passed

pub first_is : {A B : Type 0} (choose : A → Option B) (xs : List A) (y : B) → first_of choose xs ≡ Some y → (x : A) × Contains xs x × (choose x ≡ Some y)
first_is choose [] y is = absurd (none-some y is)
first_is {A} {B} choose (x ∷ xs) y is = by (either_of (choose x) (first_of choose xs) y is) (first_is choose xs y)
  where
    by : (choose x ≡ Some y) ⊎ (first_of choose xs ≡ Some y) → (first_of choose xs ≡ Some y → (z : A) × Contains xs z × (choose z ≡ Some y)) → (z : A) × Contains (x ∷ xs) z × (choose z ≡ Some y)
    by (inl now) more = (x, here x xs, now)
    by (inr after) more = let found = more after in (found.0, there x xs found.0 found.1, found.2)

pub find_is : {A : Type 0} (P : A → Type 0) (test : A → Bool) (xs : List A) (x : A) → All P xs → find test xs ≡ Some x → P x
find_is P test [] x all is = absurd (none-some x is)
find_is {A} P test (y ∷ xs) x all is = by (test y) is (find_is P test xs x (All-tail P y xs all))
  where
    by : (b : Bool) → cond b (Some y) (find test xs) ≡ Some x → (find test xs ≡ Some x → P x) → P x
    by true is more = subst P (same_Some y x is) (All-head P y xs all)
    by false is more = more is
