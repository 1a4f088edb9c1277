use Rattle.std.proofs.Common.{◌≡◌, ℕ, List, length, get_or, ap, subst, arith}
use Rattle.zone_meaning.proofs.GroupLemmas.{least_more}
use Rattle.zone_meaning.proofs.group.least.Goals as goal

pub loop-item-preserved : goal.loop-item-preserved
loop-item-preserved c =
    let same = c.as_slice-item-items.ensures in
    least_more c.args.items.now c.loop-item.item-index c.item-item.result c.loop-item.least.now c.lesser-least.result.now (omega (arith, ap length same))
    (subst (λ (items : List (List ℕ)). c.item-item.result ≡ get_or items c.loop-item.item-index c.item-item.result) same c.item-item.is)
    c.lesser-least.ensures.one
    c.lesser-least.ensures.other
    c.loop-item.invariant
