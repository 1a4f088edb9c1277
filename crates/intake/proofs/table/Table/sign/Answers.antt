use Rattle.std.proofs.Common.{refl, sym, ap, ◌∙◌, set, arith}
use Rattle.intake.specs.Pile.{has_key, with_signature}
use Rattle.intake.specs.declared.pile.Pile.{Pile}
use Rattle.intake.proofs.TableLemmas.{on_ok, place_below, place_changed, place_unchanged, table_with}
use Rattle.intake.proofs.table.Table.sign.Goals as goal

pub index_mut-requires : goal.index_mut-requires
index_mut-requires c = let below = place_below (has_key c.args.key.now) c.args.self.now.piles.items c.in-Some.at (sym (rw c.lent.ensures at c.in-Some.ensures)) in omega (arith, below)

pub returns-in-Some-clause-table : goal.returns-in-Some-clause-table
returns-in-Some-clause-table c =
    on_ok c.sign.result _ _
    (λ is. record {
      places = table_with c.args.self.now c.in-Some.at c.index_mut.result.now c.sign.new.self _ c.requires
          (place_below (has_key c.args.key.now) c.args.self.now.piles.items c.in-Some.at (sym (rw c.lent.ensures at c.in-Some.ensures))) c.index_mut.ensures.value (λ key. ap (has_key key) is) refl;
    })
    c.sign.ensures

pub returns-in-Some-clause-piles : goal.returns-in-Some-clause-piles
returns-in-Some-clause-piles c =
    let change = λ (pile : Pile). with_signature pile c.args.octets in
    let piles = c.args.self.now.piles.items in
    on_ok c.sign.result _ _
    (λ is.
    ap (set piles c.in-Some.at) is
    ∙ ap (λ pile. set piles c.in-Some.at (change pile)) c.index_mut.ensures.value
    ∙ sym (place_changed (has_key c.args.key.now) change piles c.in-Some.at c.index_mut.result.now (sym (rw c.lent.ensures at c.in-Some.ensures))))
    c.sign.ensures

pub returns-in-None-clause-piles : goal.returns-in-None-clause-piles
returns-in-None-clause-piles c = sym (place_unchanged (has_key c.args.key.now) (λ pile. with_signature pile c.args.octets) c.args.self.now.piles.items (sym (rw c.lent.ensures at c.in-None.ensures)))
