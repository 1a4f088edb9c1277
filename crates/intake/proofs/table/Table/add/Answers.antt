use Rattle.std.proofs.Common.{refl, sym, ap, ◌∙◌, ◌++◌, ◌∷◌, [], set, arith}
use Rattle.intake.specs.Pile.{has_key, key_of, joined, begun, changed_first}
use Rattle.intake.specs.declared.pile.Pile.{Pile}
use Rattle.intake.proofs.TableLemmas.{on_ok, if_true, if_false, place_below, place_changed, place_any, place_none, table_with}
use Rattle.intake.proofs.table.Table.add.Goals as goal

pub index_mut-requires : goal.index_mut-requires
index_mut-requires c = let below = place_below (has_key (key_of c.args.rr)) c.args.self.now.piles.items c.in-Some.at (sym (rw c.key_of.ensures at c.in-Some.ensures)) in omega (arith, below)

pub returns-in-Some-clause-table : goal.returns-in-Some-clause-table
returns-in-Some-clause-table c =
    on_ok c.join.result _ _
    (λ is. record {
      places = table_with c.args.self.now c.in-Some.at c.index_mut.result.now c.join.new.self _ c.requires
          (place_below (has_key (key_of c.args.rr)) c.args.self.now.piles.items c.in-Some.at (sym (rw c.key_of.ensures at c.in-Some.ensures))) c.index_mut.ensures.value (λ key. ap (has_key key) is) refl;
    })
    c.join.ensures

pub returns-in-Some-clause-piles : goal.returns-in-Some-clause-piles
returns-in-Some-clause-piles c =
    let test = has_key (key_of c.args.rr) in
    let change = λ (pile : Pile). joined pile c.args.rr.ttl c.args.rr.octets in
    let piles = c.args.self.now.piles.items in
    on_ok c.join.result _ _
    (λ is.
    ap (set piles c.in-Some.at) is
    ∙ ap (λ pile. set piles c.in-Some.at (change pile)) c.index_mut.ensures.value
    ∙ sym (place_changed test change piles c.in-Some.at c.index_mut.result.now (sym (rw c.key_of.ensures at c.in-Some.ensures)))
    ∙ sym (if_true _ (changed_first test change piles) (piles ++ begun (key_of c.args.rr) c.args.rr.ttl c.args.rr.octets ∷ []) (place_any test piles c.in-Some.at (sym (rw c.key_of.ensures at c.in-Some.ensures)))))
    c.join.ensures

pub returns-in-None-clause-piles : goal.returns-in-None-clause-piles
returns-in-None-clause-piles c =
    let test = has_key (key_of c.args.rr) in
    let change = λ (pile : Pile). joined pile c.args.rr.ttl c.args.rr.octets in
    let piles = c.args.self.now.piles.items in
    on_ok c.begin.result _ _
    (λ is. is ∙ sym (if_false _ (changed_first test change piles) (piles ++ begun (key_of c.args.rr) c.args.rr.ttl c.args.rr.octets ∷ []) (place_none test piles (sym (rw c.key_of.ensures at c.in-None.ensures)))))
    c.begin.ensures.piles
