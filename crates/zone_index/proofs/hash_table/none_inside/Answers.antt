use Rattle.std.proofs.Common.{◌≡◌, get_or, length, sym, ◌∙◌, subst}
use Rattle.std.specs.Prelude.{not}
use Rattle.std.specs.Bool.{Decides}
use Rattle.std.specs.Cmp.Lexicographic.{nat_list_cmp_total, bytes_decides}
use Rattle.zone_meaning.specs.Hashed.{hash_cmp}
use Rattle.zone_index.specs.declared.hash_table.HashedName.{HashedName}
use Rattle.zone_index.proofs.HashLemmas.{hash_ties}
use Rattle.zone_index.proofs.RingLemmas.{none_inside_by, or_then, or_else, some_left}
use Rattle.zone_index.proofs.hash_table.none_inside.Goals as goal

pub returns-then-same : goal.returns-then-same
returns-then-same c =
    let d = c.index-names-at.result in
    let some = some_left (length c.args.names.now) (sym c.is_empty.ensures ∙ c.if-is_empty.false) in
    let told = subst (λ b. Decides b ((get_or c.args.names.now c.next_place-at.result d).hash ≡ c.args.start.now)) (sym c.eq-same.ensures) (bytes_decides (get_or c.args.names.now c.next_place-at.result d).hash c.args.start.now) in
    or_then c.eq-same.result (not c.arc_has-has.result) c.if-same.true
    (none_inside_by hash_cmp nat_list_cmp_total hash_ties (λ (e : HashedName). e.hash) c.args.names.now c.requires c.args.start.now c.place_behind.result c.place_behind.ensures.point d c.next_place-at.result c.args.end.now some c.next_place-at.ensures.next c.next_place-at.ensures.first c.eq-same.result told c.arc_has-has.result c.arc_has-has.ensures)

pub returns-else-same : goal.returns-else-same
returns-else-same c =
    let d = c.index-names-at.result in
    let some = some_left (length c.args.names.now) (sym c.is_empty.ensures ∙ c.if-is_empty.false) in
    let told = subst (λ b. Decides b ((get_or c.args.names.now c.next_place-at.result d).hash ≡ c.args.start.now)) (sym c.eq-same.ensures) (bytes_decides (get_or c.args.names.now c.next_place-at.result d).hash c.args.start.now) in
    or_else c.eq-same.result (not c.arc_has-has.result) c.if-same.false
    (none_inside_by hash_cmp nat_list_cmp_total hash_ties (λ (e : HashedName). e.hash) c.args.names.now c.requires c.args.start.now c.place_behind.result c.place_behind.ensures.point d c.next_place-at.result c.args.end.now some c.next_place-at.ensures.next c.next_place-at.ensures.first c.eq-same.result told c.arc_has-has.result c.arc_has-has.ensures)
