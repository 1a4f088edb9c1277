-- What a search finds.
use Rattle.std.proofs.Common.{◌≡◌, ◌⊎◌, inl, inr, Bool, true, false, cond, List, [], ◌∷◌, Contains, filter, find, Some, None, refl, sym, ap, ◌∙◌, subst}
use Rattle.std.specs.List.{slice_get}
use Rattle.facts.proofs.Lists.{here, there, here_or_there, nothing_in}

module _ {X : Type 0} (p : X → Bool) where
  pub find_is_first : (xs : List X) → find p xs ≡ slice_get (filter p xs) 0
  find_is_first [] = refl
  find_is_first (x ∷ xs) = elim (p x) as (λ b. (cond b (Some x) (find p xs)) ≡ slice_get (cond b (x ∷ filter p xs) (filter p xs)) 0) [ true ↦ refl | false ↦ find_is_first xs ]

  pub find_none : (xs : List X) → find p xs ≡ None → (x : X) → Contains xs x → p x ≡ false
  find_none [] none x has = absurd (nothing_in x has)
  find_none (y ∷ xs) none x has = by (p y) refl none (here_or_there y xs x has) (λ h h'. find_none xs h x h')
    where
      by : (b : Bool) → p y ≡ b → cond b (Some y) (find p xs) ≡ None → (y ≡ x) ⊎ Contains xs x → (find p xs ≡ None → Contains xs x → p x ≡ false) → p x ≡ false
      by true is none has rest = cc
      by false is none (inl same) rest = ap p (sym same) ∙ is
      by false is none (inr h) rest = rest none h

  pub find_some : (xs : List X) (x : X) → find p xs ≡ Some x → Contains xs x × (p x ≡ true)
  find_some [] x some = cc
  find_some (y ∷ xs) x some = by (p y) refl some (λ h. find_some xs x h)
    where
      by : (b : Bool) → p y ≡ b → cond b (Some y) (find p xs) ≡ Some x → (find p xs ≡ Some x → Contains xs x × (p x ≡ true)) → Contains (y ∷ xs) x × (p x ≡ true)
      by true is some rest = let same : y ≡ x = cc in (subst (Contains (y ∷ xs)) same (here y xs), ap p (sym same) ∙ is)
      by false is some rest = let more = rest some in (there y xs x more.0, more.1)
