use Rattle.std.proofs.Common.{Some, refl, sym, ap, subst, ◌∙◌}
use Rattle.std.specs.BTreeMap.{get, Updates}
use Rattle.intake.specs.Pile.{key_of_pile, key_cmp}
use Rattle.intake.specs.declared.key.Key.{Key}
use Rattle.intake.proofs.TableLemmas.{table_held, table_more}
use Rattle.intake.proofs.table.enter.Goals as goal

pub returns-in-Some : goal.returns-in-Some
returns-in-Some c = λ piles at places.
    table_held c.args.places.now piles c.args.pile.now c.in-Some.field-0 places
    (ap (get key_cmp c.args.places.now) (sym c.key-key.ensures) ∙ sym c.get.ensures.value ∙ sym c.copied.ensures ∙ c.in-Some.is)

pub returns-in_ok-insert-in-None : goal.returns-in_ok-insert-in-None
returns-in_ok-insert-in-None c = λ piles at places.
    table_more c.args.places.now c.insert.new.self piles (key_of_pile c.args.pile.now) c.args.pile.now c.args.at places
    (sym (places (key_of_pile c.args.pile.now)) ∙ ap (get key_cmp c.args.places.now) (sym c.key-key.ensures) ∙ sym c.get.ensures.value ∙ sym c.copied.ensures ∙ c.in-None.is)
    (λ q. refl) at
    (subst (λ (k : Key). Updates key_cmp c.args.places.now c.insert.new.self k (Some c.args.at)) c.key-key.ensures c.in_ok-insert-in-None.ensures.updates)
