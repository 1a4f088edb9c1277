use Rattle.std.proofs.Common.{◌≡◌, suc, Bool, true, false, List, [], ◌∷◌, ◌++◌, get_or, if◌then◌else◌, arith, refl, sym, ap, ◌∙◌, true≢false}
use Rattle.std.specs.List.{All, AllPairs}
use Rattle.std.proofs.lemmas.List.Elements.{All-nil, All-cons, All-head, All-tail}
use Rattle.std.proofs.lemmas.List.Kept.{AllPairs-cons}
use Rattle.range_index.specs.Arcs.{inserted}
use Rattle.range_index.proofs.OrderLemmas.{either}

module _ {X : Type 0} (p : X → Bool) (new : X) where
  pub inserted_end : (xs : List X) → All (λ x. p x ≡ true) xs → inserted p new xs ≡ xs ++ new ∷ []
  inserted_end [] h = refl
  inserted_end (x ∷ xs) h =
      ap (λ b. if b then x ∷ inserted p new xs else new ∷ x ∷ xs) (All-head (λ y. p y ≡ true) x xs h) ∙ ap (λ z. x ∷ z) (inserted_end xs (All-tail (λ y. p y ≡ true) x xs h))

  inserted_front : (ys : List X) → All (λ x. p x ≡ false) ys → inserted p new ys ≡ new ∷ ys
  inserted_front [] h = refl
  inserted_front (y ∷ ys) h = ap (λ b. if b then y ∷ inserted p new ys else new ∷ y ∷ ys) (All-head (λ y. p y ≡ false) y ys h)

  pub inserted_at : (xs ys : List X) → All (λ x. p x ≡ true) xs → All (λ x. p x ≡ false) ys → inserted p new (xs ++ ys) ≡ xs ++ new ∷ ys
  inserted_at [] ys h k = inserted_front ys k
  inserted_at (x ∷ xs) ys h k =
      ap (λ b. if b then x ∷ inserted p new (xs ++ ys) else new ∷ x ∷ (xs ++ ys)) (All-head (λ y. p y ≡ true) x xs h) ∙ ap (λ z. x ∷ z) (inserted_at xs ys (All-tail (λ y. p y ≡ true) x xs h) k)

  pub All-inserted : (P : X → Type 0) (xs : List X) → P new → All P xs → All P (inserted p new xs)
  All-inserted P [] h all = All-cons P new [] h all
  All-inserted P (x ∷ xs) h all =
      either (p x) (λ e. rw e (All-cons P x (inserted p new xs) (All-head P x xs all) (All-inserted P xs h (All-tail P x xs all))))
      (λ e. rw e (All-cons P new (x ∷ xs) h all))

pub AllPairs-head : {X : Type 0} (R : X → X → Type 0) (x : X) (xs : List X) → AllPairs R (x ∷ xs) → All (R x) xs
AllPairs-head R x xs h k d lt = h 0 (suc k) d (omega arith) (omega arith)

pub AllPairs-tail : {X : Type 0} (R : X → X → Type 0) (x : X) (xs : List X) → AllPairs R (x ∷ xs) → AllPairs R xs
AllPairs-tail R x xs h i j d lt hi = h (suc i) (suc j) d (omega arith) (omega arith)

-- Those that pass may stand before the new one, those that don't behind it, and those that pass come first.
pub AllPairs-inserted : {X : Type 0} (R : X → X → Type 0) (p : X → Bool) (new : X) (xs : List X) → AllPairs R xs → AllPairs (λ x y. p y ≡ true → p x ≡ true) xs → All (λ x. p x ≡ true → R x new) xs → All (λ x. p x ≡ false → R new x) xs → AllPairs R (inserted p new xs)
AllPairs-inserted R p new [] pairs parted before behind = AllPairs-cons R new [] (All-nil (R new)) pairs
AllPairs-inserted {X} R p new (x ∷ xs) pairs parted before behind =
    either (p x)
    (λ e. rw e (AllPairs-cons R x (inserted p new xs)
    (All-inserted p new (R x) xs (All-head (λ y. p y ≡ true → R y new) x xs before e) (AllPairs-head R x xs pairs))
    (AllPairs-inserted R p new xs (AllPairs-tail R x xs pairs) (AllPairs-tail (λ x y. p y ≡ true → p x ≡ true) x xs parted) (All-tail (λ y. p y ≡ true → R y new) x xs before) (All-tail (λ y. p y ≡ false → R new y) x xs behind))))
    (λ e. rw e (AllPairs-cons R new (x ∷ xs)
    (All-cons (R new) x xs (All-head (λ y. p y ≡ false → R new y) x xs behind e)
    (λ k d lt. All-tail (λ y. p y ≡ false → R new y) x xs behind k d lt
    (either (p (get_or xs k d)) (λ t. absurd (true≢false (sym (AllPairs-head (λ x y. p y ≡ true → p x ≡ true) x xs parted k d lt t) ∙ e))) (λ f. f))))
    pairs))
