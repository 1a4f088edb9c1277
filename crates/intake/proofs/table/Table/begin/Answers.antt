use Rattle.std.proofs.Common.{Some, length, refl, ap, subst, ◌∙◌, arith}
use Rattle.std.specs.BTreeMap.{Updates}
use Rattle.intake.specs.Pile.{key_of, key_cmp}
use Rattle.intake.specs.declared.key.Key.{Key}
use Rattle.intake.specs.declared.table.Table.{Table}
use Rattle.intake.proofs.TableLemmas.{table_begun, table_few}
use Rattle.intake.proofs.table.Table.begin.Goals as goal
use Rattle.intake.proofs.table.Table.begin.Goals.{then-len-ge-FEW+in_ok-make_places+in_ok-insert, else-len-ge-FEW}

pub returns-clause-table : goal.returns-clause-table
returns-clause-table c =
    let after : Table = record { piles = c.push-2.new.self; places = c.if-len-ge-FEW.self.places } in
    elim c.if-len-ge-FEW.branch [
      | then-len-ge-FEW+in_ok-make_places+in_ok-insert w ↦
          table_begun after c.if-len-ge-FEW.self.piles.items c.args.self.now.piles.items _ w.make_places.new.self.places w.insert.new.self (key_of c.args.rr) w.len-then-len-ge-FEW.result
          c.in_ok-push-2.ensures.items (ap (λ (t : Table). t.piles.items) w.self-is ∙ w.in_ok-make_places.ensures.piles) (ap (λ (t : Table). t.places) w.self-is)
          w.in_ok-make_places.ensures.places c.requires.new
          (λ k. refl)
          (omega (arith, w.len-then-len-ge-FEW.ensures, ap length w.in_ok-make_places.ensures.piles))
          (subst (λ (key : Key). Updates key_cmp w.make_places.new.self.places w.insert.new.self key (Some w.len-then-len-ge-FEW.result)) w.key.ensures w.in_ok-insert.ensures.updates)
      | else-len-ge-FEW w ↦
          table_few after c.if-len-ge-FEW.self.piles.items c.args.self.now.piles.items _
          c.in_ok-push-2.ensures.items (ap (λ (t : Table). t.piles.items) w.self-is) (omega (arith, w.if-len-ge-FEW, c.len.ensures))
    ]
