-- Of a name and the names above it, the topmost and the lowest of which something holds.
use Rattle.std.proofs.Common.{◌≡◌, Bool, List, [], ◌∷◌, refl, sym, subst, ◌⊎◌, inl, inr, ⊎_elim}
use Rattle.std.specs.Bool.{Decides}
use Rattle.std.proofs.lemmas.List.{append-nil}
use Rattle.dname.specs.Name.{Label, IsUnder}
use Rattle.dname.proofs.UnderLemmas.{under_itself, under_through, under_both, under_step}
use Rattle.zone_meaning.specs.Zone.{IsBelow}
use Rattle.zone_meaning.proofs.ZoneLemmas.{so_or_not}

module _ (P : List Label → Type 0) (p : List Label → Bool) (decides : (x : List Label) → Decides (p x) (P x)) where
  -- the topmost of them of which P holds, or none
  pub topmost_or_none : (name : List Label) → ((x : List Label) × IsUnder name x × P x × ((y : List Label) → P y → IsBelow x y → ⊥)) ⊎ ((x : List Label) → IsUnder name x → P x → ⊥)
  topmost_or_none [] = ⊎_elim
      (λ yes. inl ([], under_itself [], yes, λ y is below. below.1 (root_above y below.0)))
      (λ unlike. inr (λ x under is. unlike (subst P (sym (root_above x under)) is)))
      (so_or_not (p []) (decides []))
    where
      root_above : (y : List Label) → IsUnder [] y → [] ≡ y
      root_above y under = under_both [] y under (y, sym (append-nil y))
  topmost_or_none (label ∷ rest) = ⊎_elim
      (λ (h : (x : List Label) × IsUnder rest x × P x × ((y : List Label) → P y → IsBelow x y → ⊥)). inl (h.0, under_through (label ∷ rest) rest h.0 (label ∷ [], refl) h.1, h.2, h.3))
      (λ none. ⊎_elim
      (λ yes. inl (label ∷ rest, under_itself (label ∷ rest), yes, λ y is below. ⊎_elim below.1 (λ under. none y under is) (under_step label rest y below.0)))
      (λ unlike. inr (λ x under is. ⊎_elim (λ same. unlike (subst P (sym same) is)) (λ above. none x above is) (under_step label rest x under)))
      (so_or_not (p (label ∷ rest)) (decides (label ∷ rest))))
      (topmost_or_none rest)

  -- the lowest of them, or none
  pub lowest_or_none : (name : List Label) → ((x : List Label) × IsUnder name x × P x × ((y : List Label) → P y → IsUnder name y → IsUnder x y)) ⊎ ((x : List Label) → IsUnder name x → P x → ⊥)
  lowest_or_none [] = ⊎_elim
      (λ yes. inl ([], under_itself [], yes, λ y is under. under))
      (λ unlike. inr (λ x under is. unlike (subst P (sym (under_both [] x under (x, sym (append-nil x)))) is)))
      (so_or_not (p []) (decides []))
  lowest_or_none (label ∷ rest) = ⊎_elim
      (λ yes. inl (label ∷ rest, under_itself (label ∷ rest), yes, λ y is under. under))
      (λ unlike. ⊎_elim
      (λ (h : (x : List Label) × IsUnder rest x × P x × ((y : List Label) → P y → IsUnder rest y → IsUnder x y)).
      inl (h.0, under_through (label ∷ rest) rest h.0 (label ∷ [], refl) h.1, h.2, λ y is under. ⊎_elim (λ same. absurd (unlike (subst P (sym same) is))) (λ above. h.3 y is above) (under_step label rest y under)))
      (λ none. inr (λ x under is. ⊎_elim (λ same. unlike (subst P (sym same) is)) (λ above. none x above is) (under_step label rest x under)))
      (lowest_or_none rest))
      (so_or_not (p (label ∷ rest)) (decides (label ∷ rest)))
