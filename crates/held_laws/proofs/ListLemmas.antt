-- What a list contains, where it is filtered or asked.
use Rattle.std.proofs.Common.{◌≡◌, ◌⊎◌, ◌||◌, inl, inr, ⊎_elim, Bool, true, false, true≢false, List, [], ◌∷◌, Contains, filter, refl, sym, ◌∙◌, ap, subst, ◌↔◌, ◌++◌}
use Rattle.std.specs.List.{list_any}
use Rattle.std.proofs.lemmas.List.Elements.{Contains-push, Contains-append_left, Contains-push_cases}
use Rattle.facts.proofs.Filters.{kept, was_kept}
use Rattle.facts.proofs.Lists.{here, there, here_or_there, nothing_in}

module _ {X : Type 0} (p : X → Bool) where
  fails_there : (y x : X) → y ≡ x → p x ≡ true → p y ≡ false → ⊥
  fails_there y x same passes fails = true≢false (sym passes ∙ ap p (sym same) ∙ fails)

  pub found : (xs : List X) → list_any p xs ≡ true → (x : X) × Contains xs x × (p x ≡ true)
  found [] is = absurd (true≢false (sym is))
  found (y ∷ xs) is = by (p y) refl is (found xs)
    where
      by : (b : Bool) → p y ≡ b → (b || list_any p xs) ≡ true → (list_any p xs ≡ true → (x : X) × Contains xs x × (p x ≡ true)) → (x : X) × Contains (y ∷ xs) x × (p x ≡ true)
      by true passes h rest = (y, here y xs, passes)
      by false fails h rest = ((rest h).0, there y xs (rest h).0 (rest h).1, (rest h).2)

  pub is_found : (xs : List X) (x : X) → Contains xs x → p x ≡ true → list_any p xs ≡ true
  is_found [] x has passes = absurd (nothing_in x has)
  is_found (y ∷ xs) x has passes = by (p y) refl (here_or_there y xs x has) (λ h. is_found xs x h passes)
    where
      by : (b : Bool) → p y ≡ b → (y ≡ x) ⊎ Contains xs x → (Contains xs x → list_any p xs ≡ true) → (b || list_any p xs) ≡ true
      by true is h rest = refl
      by false is (inl same) rest = absurd (fails_there y x same passes is)
      by false is (inr h) rest = rest h

-- ---- lists with the same items

abbrev pub SameMembers : {X : Type 0} → List X → List X → Type 0
SameMembers {X} xs ys = (x : X) → Contains xs x ↔ Contains ys x

pub filtered : {X : Type 0} (p q : X → Bool) → ((x : X) → p x ≡ q x) → (xs ys : List X) → SameMembers xs ys → SameMembers (filter p xs) (filter q ys)
filtered p q agree xs ys same x = (
  λ has. let was = was_kept p xs x has in kept q ys x ((same x).0 was.0) (sym (agree x) ∙ was.1),
  λ has. let was = was_kept q ys x has in kept p xs x ((same x).1 was.0) (agree x ∙ was.1),
)

pushed_there : {X : Type 0} (xs ys : List X) → ((x : X) → Contains xs x → Contains ys x) → (new x : X) → Contains (xs ++ new ∷ []) x → Contains (ys ++ new ∷ []) x
pushed_there xs ys more new x has =
    ⊎_elim (λ h. Contains-append_left ys (new ∷ []) x (more x h)) (λ same. subst (Contains (ys ++ new ∷ [])) same (Contains-push ys new)) (Contains-push_cases xs new x has)

pub pushed : {X : Type 0} (xs ys : List X) → SameMembers xs ys → (new : X) → SameMembers (xs ++ new ∷ []) (ys ++ new ∷ [])
pushed xs ys same new x = (pushed_there xs ys (λ y. (same y).0) new x, pushed_there ys xs (λ y. (same y).1) new x)
