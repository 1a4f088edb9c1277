-- Marks that agree with an order, for orders that begin with a number, and where all have one mark.
use Rattle.std.proofs.Common.{◌≡◌, ℕ, ◌<◌, sym, ap, arith}
use Rattle.std.specs.Cmp.{nat_cmp_is}
use Rattle.std.specs.Ordering.{nat_cmp, ordering_then}
use Rattle.std.specs.declared.cmp.Ordering.{Ordering}
use Rattle.std.specs.declared.cmp.Ordering.TheVariants.{Less}

pub less_first : (n m : ℕ) (rest : Ordering) → n < m → ordering_then (nat_cmp n m) rest ≡ Less
less_first n m rest less = ap (λ o. ordering_then o rest) (sym (nat_cmp_is n m Less less))

pub none_rises : (n : ℕ) (o : Ordering) → n < n → o ≡ Less
none_rises n o less = absurd (omega arith)
