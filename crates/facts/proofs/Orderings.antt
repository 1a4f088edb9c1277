-- What tells of an `Ordering` which one it is.
use Rattle.std.proofs.Common.{◌≡◌, true, not, true≢false, refl, ap}
use Rattle.std.specs.Ordering.{is_lt, is_eq, is_gt, ordering_then}
use Rattle.std.specs.declared.cmp.Ordering.{Ordering}
use Rattle.std.specs.declared.cmp.Ordering.TheVariants.{Less, Equal, Greater}

pub less_from : (r : Ordering) → is_lt r ≡ true → r ≡ Less
less_from Less h = refl
less_from Equal h = cc
less_from Greater h = cc

pub equal_from : (r : Ordering) → is_eq r ≡ true → r ≡ Equal
equal_from Less h = cc
equal_from Equal h = refl
equal_from Greater h = cc

pub greater_from : (r : Ordering) → is_gt r ≡ true → r ≡ Greater
greater_from Less h = cc
greater_from Equal h = cc
greater_from Greater h = refl

-- what is less isn't equal
pub less_not_equal : (r : Ordering) → is_lt r ≡ true → not (is_eq r) ≡ true
less_not_equal Less h = refl
less_not_equal Equal h = cc
less_not_equal Greater h = refl

-- two orders, one after the other, tie where both do
pub both_equal : (a b : Ordering) → ordering_then a b ≡ Equal → (a ≡ Equal) × (b ≡ Equal)
both_equal Less b is = absurd (true≢false (ap is_lt is))
both_equal Equal b is = (refl, is)
both_equal Greater b is = absurd (true≢false (ap is_gt is))
