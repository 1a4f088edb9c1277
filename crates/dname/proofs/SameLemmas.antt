-- Names that are one, by the test that computes.
use Rattle.std.proofs.Common.{◌≡◌, ◌≢◌, ◌⊎◌, inl, inr, ⊎_elim, true, List, refl}
use Rattle.std.specs.Bool.{Decides}
use Rattle.std.specs.Cmp.Lexicographic.{pointwise_decides, bytes_decides}
use Rattle.std.proofs.lemmas.Bool.{cases_Bool}
use Rattle.std.proofs.lemmas.Bool.Decides.{not_from_Decides}
use Rattle.dname.specs.Name.{Label}
use Rattle.dname.specs.Tests.{same_name}

pub same_name_decides : (x y : List Label) → Decides (same_name x y) (x ≡ y)
same_name_decides x y = pointwise_decides bytes_decides x y

pub name_equal : (x y : List Label) → same_name x y ≡ true → x ≡ y
name_equal x y = (same_name_decides x y).0

pub same_names : (x y : List Label) → x ≡ y → same_name x y ≡ true
same_names x y = (same_name_decides x y).1

pub name_itself : (x : List Label) → same_name x x ≡ true
name_itself x = same_names x x refl

-- two names are one or not
pub same_or_not : (x y : List Label) → (x ≡ y) ⊎ (x ≢ y)
same_or_not x y =
    ⊎_elim (λ yes. inl (name_equal x y yes)) (λ unlike. inr (not_from_Decides _ (same_name_decides x y) unlike)) (cases_Bool (same_name x y))
