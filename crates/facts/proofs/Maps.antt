-- What is in a list that was mapped.
use Rattle.std.proofs.Common.{◌≡◌, List, [], ◌∷◌, map, subst, ⊎_elim}
use Rattle.std.specs.List.{Contains}
use Rattle.facts.proofs.Lists.{here, there, here_or_there, nothing_in}

pub into_map : {X Y : Type 0} (f : X → Y) (xs : List X) (x : X) → Contains xs x → Contains (map f xs) (f x)
into_map f [] x has = absurd (nothing_in x has)
into_map f (y ∷ ys) x has = ⊎_elim
    (λ same. subst (λ z. Contains (map f (y ∷ ys)) (f z)) same (here (f y) (map f ys)))
    (λ more. there (f y) (map f ys) (f x) (into_map f ys x more))
    (here_or_there y ys x has)

pub from_map : {X Y : Type 0} (f : X → Y) (xs : List X) (y : Y) → Contains (map f xs) y → (x : X) × Contains xs x × (f x ≡ y)
from_map f [] y has = absurd (nothing_in y has)
from_map f (x ∷ xs) y has = ⊎_elim
    (λ same. (x, here x xs, same))
    (λ more. let h = from_map f xs y more in (h.0, there x xs h.0 h.1, h.2))
    (here_or_there (f x) (map f xs) y has)
