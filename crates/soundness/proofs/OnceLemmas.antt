-- What holds of records listed once holds of each, where those alike are the same.
use Rattle.std.proofs.Common.{◌≡◌, Bool, true, false, cond, List, [], ◌∷◌, refl, subst}
use Rattle.std.specs.Prelude.{not, map, filter}
use Rattle.std.specs.List.{All}
use Rattle.std.proofs.lemmas.List.Elements.{All-nil, All-cons, All-head, All-tail, All-filter}
use Rattle.dname.specs.Tests.{each_once}

pub all_unmapped : {X Y : Type 0} (P : Y → Type 0) (f : X → Y) (xs : List X) → All P (map f xs) → All (λ x. P (f x)) xs
all_unmapped P f [] all = All-nil (λ x. P (f x))
all_unmapped P f (x ∷ xs) all = All-cons (λ z. P (f z)) x xs (All-head P (f x) (map f xs) all) (all_unmapped P f xs (All-tail P (f x) (map f xs) all))

pub all_once : {X : Type 0} (alike : X → X → Bool) (Q : X → Type 0) (xs : List X) → All Q xs → All Q (each_once alike xs)
all_once alike Q [] qs = All-nil Q
all_once alike Q (x ∷ xs) qs = All-cons Q x (filter (λ y. not (alike x y)) (each_once alike xs)) (All-head Q x xs qs) (All-filter (λ y. not (alike x y)) Q (each_once alike xs) (all_once alike Q xs (All-tail Q x xs qs)))

module _ {X : Type 0} (alike : X → X → Bool) (Q P : X → Type 0) (same : (x y : X) → Q x → Q y → alike x y ≡ true → x ≡ y) where
  with_alike : (x : X) → Q x → P x → (ys : List X) → All Q ys → All P (filter (λ y. not (alike x y)) ys) → All P ys
  with_alike x q p [] qs ps = All-nil P
  with_alike x q p (y ∷ ys) qs ps = by (alike x y) refl ps (with_alike x q p ys (All-tail Q y ys qs))
    where
      others : List X
      others = filter (λ z. not (alike x z)) ys

      by : (b : Bool) → alike x y ≡ b → All P (cond (not b) (y ∷ others) others) → (All P others → All P ys) → All P (y ∷ ys)
      by true is ps more = All-cons P y ys (subst P (same x y q (All-head Q y ys qs) is) p) (more ps)
      by false is ps more = All-cons P y ys (All-head P y others ps) (more (All-tail P y others ps))

  pub all_of_once : (xs : List X) → All Q xs → All P (each_once alike xs) → All P xs
  all_of_once [] qs ps = All-nil P
  all_of_once (x ∷ xs) qs ps =
      let others = filter (λ y. not (alike x y)) (each_once alike xs) in
      let rest = with_alike x (All-head Q x xs qs) (All-head P x others ps) (each_once alike xs) (all_once alike Q xs (All-tail Q x xs qs)) (All-tail P x others ps) in
      All-cons P x xs (All-head P x others ps) (all_of_once xs (All-tail Q x xs qs) rest)
