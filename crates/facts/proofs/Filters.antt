-- What a filter keeps.
use Rattle.std.proofs.Common.{◌≡◌, ◌⊎◌, inl, inr, ⊎_elim, Bool, true, false, true≢false, cond, List, [], ◌∷◌, All, Contains, filter, refl, sym, ap, ◌∙◌, subst}
use Rattle.std.proofs.lemmas.List.Elements.{All-head, All-tail}
use Rattle.facts.proofs.Lists.{here, there, here_or_there, nothing_in}

module _ {X : Type 0} (p : X → Bool) where
  -- ---- where all pass, or none

  pub filter_all : (xs : List X) → All (λ x. p x ≡ true) xs → filter p xs ≡ xs
  filter_all [] h = refl
  filter_all (x ∷ xs) h = rw (All-head (λ y. p y ≡ true) x xs h) (ap (λ ys. x ∷ ys) (filter_all xs (All-tail (λ y. p y ≡ true) x xs h)))

  pub filter_none : (xs : List X) → All (λ x. p x ≡ false) xs → filter p xs ≡ []
  filter_none [] h = refl
  filter_none (x ∷ xs) h = rw (All-head (λ y. p y ≡ false) x xs h) (filter_none xs (All-tail (λ y. p y ≡ false) x xs h))

  -- ---- the members of a filter

  pub kept : (xs : List X) (x : X) → Contains xs x → p x ≡ true → Contains (filter p xs) x
  kept [] x has passes = absurd (nothing_in x has)
  kept (y ∷ xs) x has passes = by (p y) refl (here_or_there y xs x has) (λ h. kept xs x h passes)
    where
      by : (b : Bool) → p y ≡ b → (y ≡ x) ⊎ Contains xs x → (Contains xs x → Contains (filter p xs) x) → Contains (cond b (y ∷ filter p xs) (filter p xs)) x
      by true is (inl same) rest = subst (Contains (y ∷ filter p xs)) same (here y (filter p xs))
      by true is (inr h) rest = there y (filter p xs) x (rest h)
      by false is (inl same) rest = absurd (true≢false (sym passes ∙ ap p (sym same) ∙ is))
      by false is (inr h) rest = rest h

  pub was_kept : (xs : List X) (x : X) → Contains (filter p xs) x → Contains xs x × (p x ≡ true)
  was_kept [] x has = absurd (nothing_in x has)
  was_kept (y ∷ xs) x has = by (p y) refl has (λ h. (there y xs x (was_kept xs x h).0, (was_kept xs x h).1))
    where
      by : (b : Bool) → p y ≡ b → Contains (cond b (y ∷ filter p xs) (filter p xs)) x → (Contains (filter p xs) x → Contains (y ∷ xs) x × (p x ≡ true)) → Contains (y ∷ xs) x × (p x ≡ true)
      by false is h rest = rest h
      by true is h rest =
          ⊎_elim (λ same. (subst (Contains (y ∷ xs)) same (here y xs), ap p (sym same) ∙ is)) rest
          (here_or_there y (filter p xs) x h)

-- two filters, in either order
pub filters_commute : {X : Type 0} (p q : X → Bool) (xs : List X) → filter p (filter q xs) ≡ filter q (filter p xs)
filters_commute p q [] = refl
filters_commute {X} p q (x ∷ xs) = by (p x) (q x) refl refl (filters_commute p q xs)
  where
    by : (b d : Bool) → p x ≡ b → q x ≡ d → filter p (filter q xs) ≡ filter q (filter p xs) → filter p (cond d (x ∷ filter q xs) (filter q xs)) ≡ filter q (cond b (x ∷ filter p xs) (filter p xs))
    by true true is too same = rw is (rw too (ap (λ l. x ∷ l) same))
    by true false is too same = rw too same
    by false true is too same = rw is same
    by false false is too same = same
