use Rattle.std.proofs.Common.{◌-◌, List, ℕ, get_or, arith}
use Rattle.std.specs.Ordering.{nat_cmp}
use Rattle.std.specs.Cmp.Lexicographic.{slice_cmp, nat_list_cmp_total}
use Rattle.std.proofs.lemmas.Bool.{false≢true}
use Rattle.std.proofs.lemmas.List.{get_or_default}
use denote.Ref.{Bor}
use Rattle.zone_index.proofs.FindLemmas.{has_none, has_last}
use Rattle.zone_index.proofs.HashLemmas.{hash_ties}
use Rattle.zone_index.proofs.LiveLemmas.{positive}
use Rattle.zone_index.proofs.truth.has_item.Goals as goal

pub returns-then-upto-eq0 : goal.returns-then-upto-eq0
returns-then-upto-eq0 c = (
  λ e. absurd (false≢true e),
  λ has. absurd (has_none (slice_cmp nat_cmp) nat_list_cmp_total hash_ties (λ (b : Bor (List ℕ)). b.now) c.args.items.now c.requires c.args.octets.now c.item_place-upto.result c.item_place-upto.ensures.point (λ lt. omega (arith, lt, c.if-upto-eq0.true)) has.0 has.1 has.2),
)

pub returns : goal.returns
returns c =
    let xs = c.args.items.now in
    let upto = c.item_place-upto.result in
    let d : Bor (List ℕ) = c.args.octets in
    let last = get_or xs (upto - 1) d in
    let some = positive upto c.if-upto-eq0.false in
    let is = get_or_default xs (upto - 1) d last (omega (arith, some, c.item_place-upto.ensures.bound)) in
    let h = has_last (slice_cmp nat_cmp) nat_list_cmp_total hash_ties (λ (b : Bor (List ℕ)). b.now) xs c.requires c.args.octets.now upto c.item_place-upto.ensures.point c.item_place-upto.ensures.bound some last is in
    (λ t. h.1 ((c.item_is.ensures d).0 t), λ has. (c.item_is.ensures d).1 (h.0 has))
