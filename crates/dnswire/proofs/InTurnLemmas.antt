-- Items that stand one after the other.
use Rattle.std.proofs.Common.{◌≡◌, ℕ, ◌<◌, List, [], ◌∷◌, ◌++◌, length, refl, sym, ◌∙◌, subst, arith}
use Rattle.dnswire.specs.InTurn.{StandInTurn}

pub in_turn-append : {T : Type 0} (IsAt : ℕ → T → ℕ → Type 0) (at : ℕ) (items more : List T) (between end : ℕ) → StandInTurn IsAt at items between → StandInTurn IsAt between more end → StandInTurn IsAt at (items ++ more) end
in_turn-append IsAt at [] more between end a b = subst (λ n. StandInTurn IsAt n more end) (sym a) b
in_turn-append IsAt at (item ∷ items) more between end a b = (a.0, a.1, in_turn-append IsAt a.0 items more between end a.2 b)

pub in_turn-push : {T : Type 0} (IsAt : ℕ → T → ℕ → Type 0) (at : ℕ) (items : List T) (item : T) (between end : ℕ) → StandInTurn IsAt at items between → IsAt between item end → StandInTurn IsAt at (items ++ item ∷ []) end
in_turn-push IsAt at items item between end a is = in_turn-append IsAt at items (item ∷ []) between end a (end, is, refl)

pub record Same {T : Type 0} (x y : T) (end end' : ℕ) : Type 0 where
  pub items : x ≡ y
  pub ends : end ≡ end'

-- the second list is the first, and then an item that begins at the offset, and perhaps others
pub record GoesOn {T : Type 0} (IsAt : ℕ → T → ℕ → Type 0) (here : ℕ) (items all : List T) : Type 0 where
  pub next : T
  pub after : ℕ
  pub more : List T
  pub split : all ≡ items ++ next ∷ more
  pub reads : IsAt here next after

module _ {T : Type 0} (IsAt : ℕ → T → ℕ → Type 0) (one : (at : ℕ) (x y : T) (end end' : ℕ) → IsAt at x end → IsAt at y end' → Same x y end end') where
  -- so many from one offset are one list
  pub one_in_turn : (at : ℕ) (items items' : List T) (end end' : ℕ) → length items ≡ length items' → StandInTurn IsAt at items end → StandInTurn IsAt at items' end' → Same items items' end end'
  one_in_turn at [] [] end end' long a b = record { items = refl; ends = sym a ∙ b }
  one_in_turn at [] (item ∷ more) end end' long a b = absurd (omega (arith, long))
  one_in_turn at (item ∷ more) [] end end' long a b = absurd (omega (arith, long))
  one_in_turn at (item ∷ more) (item' ∷ more') end end' long a b =
      let first = one at item item' a.0 b.0 a.1 b.1 in
      let rest = one_in_turn b.0 more more' end end' (omega (arith, long)) (subst (λ n. StandInTurn IsAt n more end) first.ends a.2) b.2 in
      record { items = λ i. first.items i ∷ rest.items i; ends = rest.ends }

  pub goes_on : (at : ℕ) (items all : List T) (here end : ℕ) → StandInTurn IsAt at items here → StandInTurn IsAt at all end → length items < length all → GoesOn IsAt here items all
  goes_on at items [] here end a b few = absurd (omega (arith, few))
  goes_on at [] (item ∷ more) here end a b few =
      record { next = item; after = b.0; more = more; split = refl; reads = subst (λ n. IsAt n item b.0) a b.1 }
  goes_on at (first ∷ items) (item ∷ more) here end a b few =
      let same = one at item first b.0 a.0 b.1 a.1 in
      let on = goes_on a.0 items more here end a.2 (subst (λ n. StandInTurn IsAt n more end) same.ends b.2) (omega (arith, few)) in
      record { next = on.next; after = on.after; more = on.more; split = λ i. same.items i ∷ on.split i; reads = on.reads }
