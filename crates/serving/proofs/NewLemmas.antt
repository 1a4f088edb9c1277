-- New links, one after another.
use Rattle.std.proofs.Common.{◌≡◌, ℕ, ◌+◌, List, [], ◌∷◌, ◌++◌, length, sym, subst, arith}
use Rattle.cache_versions.proofs.Rows.{each_snoc}
use Rattle.serving.specs.Sight.{Sight, AreNew, IsNew}

pub no_new : (listen upstream : ℕ) → AreNew listen upstream []
no_new listen upstream = λ place d lt. absurd (omega (arith, lt))

pub one_new : (listen upstream place : ℕ) (links : List Sight) (link : Sight) → length links ≡ place → AreNew listen upstream links → IsNew (listen + place) upstream link → AreNew listen upstream (links ++ link ∷ [])
one_new listen upstream place links link many all new =
    each_snoc (λ (k : ℕ) (l : Sight). IsNew (listen + k) upstream l) links link all (subst (λ n. IsNew (listen + n) upstream link) (sym many) new)
