-- Tests of types and names, as the definitions write them.
use Rattle.std.proofs.Common.{◌≡◌, ℕ, Bool, List, refl}
use Rattle.std.specs.Bool.{Decides, ◌==◌}
use Rattle.std.specs.List.{Contains}
use Rattle.std.proofs.lemmas.Bool.Decides.{same_from_decides, Decides-by_or, Decides-eqb}
use Rattle.std.proofs.lemmas.List.Elements.{Decides-contains}
use Rattle.dname.specs.Name.{Label, IsUnder}
use Rattle.dname.specs.Tests.{is_under}
use Rattle.dname.proofs.UnderLemmas.{under_decides}
use Rattle.cache_meaning.specs.Evidence.{has_type}

-- a set has a type exactly where the test says so
pub has_type_from_contains : (types : List ℕ) (rtype : ℕ) (r : Bool) → Decides r (Contains types rtype) → r ≡ has_type types rtype
has_type_from_contains types rtype r decides =
    same_from_decides r (has_type types rtype) decides
    (Decides-contains types rtype (has_type types rtype)
    (Decides-by_or (λ each. each == rtype) (λ each. each ≡ rtype) (λ all. has_type all rtype) (λ each. Decides-eqb each rtype) refl (λ _ _. refl) types))

pub is_under_from_under : (name other : List Label) (r : Bool) → Decides r (IsUnder name other) → r ≡ is_under name other
is_under_from_under name other r decides = same_from_decides r (is_under name other) decides (under_decides name other)
