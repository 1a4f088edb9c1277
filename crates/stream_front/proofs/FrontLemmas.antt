-- What is left in a front.
use Rattle.std.proofs.Common.{◌≡◌, ℕ, List, Option, Some, None, refl, sym, ap}
use Rattle.stream_front.specs.Split.{Left, Rest, TooSmall, left_of, rest_in, too_small_in}

none_some : {X : Type 0} (x : X) → None ≡ Some x → ⊥
none_some x is = cc

-- such octets are left, and no length that is too small
pub rest_left : (too_small : Option ℕ) (octets rest : List ℕ) → left_of too_small octets ≡ Rest rest → (too_small ≡ None) × (octets ≡ rest)
rest_left None octets rest is = (refl, ap rest_in is)
rest_left (Some size) octets rest is = absurd (none_some size (sym (ap too_small_in is)))

pub rest_is : (left : Left) → too_small_in left ≡ None → left ≡ Rest (rest_in left)
rest_is (Rest rest) none = refl
rest_is (TooSmall size) none = absurd (none_some size (sym none))
