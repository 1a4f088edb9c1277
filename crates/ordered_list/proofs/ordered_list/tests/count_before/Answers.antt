use Rattle.std.proofs.Common.{◌≡◌, ℕ, ◌/◌, true, nat_lt, rules, arith}
use Rattle.std.specs.Ordering.{nat_cmp}
use Rattle.std.specs.declared.cmp.Ordering.TheVariants.{Less}
use Rattle.std.proofs.lemmas.Bool.Decides.{nat_tests}
use Rattle.std.proofs.lemmas.Grind.{common_steps}
use Rattle.ordered_list.proofs.OrderLemmas.{partitioned}
use Rattle.ordered_list.proofs.ordered_list.tests.count_before.Goals as goal

passes_before : (a b n : ℕ) → nat_cmp a b ≡ Less → nat_lt b n ≡ true → nat_lt a n ≡ true
passes_before a b n less passes = grind (arith, nat_tests, common_steps)

pub returns : goal.returns
returns c =
    let passes = λ (x : ℕ). nat_lt (x / 10) c.args.ten in
    c.find.ensures.exact passes (λ x r says. search rules)
    (partitioned (λ x y. nat_cmp (x / 10) (y / 10)) passes c.args.list.now c.find.ensures.in_order (λ x y less before. passes_before (x / 10) (y / 10) c.args.ten less before))
