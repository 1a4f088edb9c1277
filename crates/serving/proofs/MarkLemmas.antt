-- Loops over the marks of taken slots.
use Rattle.std.proofs.Common.{◌≡◌, ℕ, ◌<◌, ◌≤◌, Bool, true, false, not, List, length, get_or, Some, None, ap, arith}
use Rattle.std.specs.Prelude.{◌&&◌, nat_lt}
use Rattle.std.specs.List.{position}
use Rattle.std.proofs.lemmas.Bool.{le-ltb}
use Rattle.std.proofs.lemmas.Bool.Decides.{nat_tests}
use Rattle.std.proofs.lemmas.List.Sums.{position_or_len_is}
use Rattle.serving.specs.Pending.{is_late}

-- the first i slots were looked at, and no further one
pub record AreKeptBelow (i now : ℕ) (old : List Bool) (sent : List ℕ) (new : List Bool) : Type 0 where
  pub size : length new ≡ length old
  pub below : (k : ℕ) → k < i → get_or new k false ≡ (get_or old k false && not (is_late now (get_or sent k 0)))
  pub above : (k : ℕ) → i ≤ k → get_or new k false ≡ get_or old k false

is_below : (i n : ℕ) → i < n → nat_lt i n ≡ true
is_below i n h = grind (arith, nat_tests)

-- the first mark that isn't set
pub first_free_is : (marks : List Bool) (i : ℕ) → i < length marks → ((k : ℕ) → k < i → get_or marks k false ≡ true) → get_or marks i false ≡ false → position not marks ≡ Some i
first_free_is marks i within before here =
    let first = position_or_len_is not marks i false (omega arith) (λ k h. ap not (before k h)) (λ h. ap not here) in
    rw (first, is_below i (length marks) within)

pub none_free : (marks : List Bool) → ((k : ℕ) → k < length marks → get_or marks k false ≡ true) → position not marks ≡ None
none_free marks all =
    let first = position_or_len_is not marks (length marks) false (omega arith) (λ k h. ap not (all k h)) (λ h. absurd (omega arith)) in
    rw (first, le-ltb (length marks) (length marks) (omega arith))
