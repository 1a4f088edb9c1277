use Rattle.std.proofs.Common.{◌∙◌, ◌<◌, sym, ⊎_elim, subst}
use Rattle.waiting_table.specs.declared.place.Place.{Place}
use Rattle.waiting_table.specs.declared.place.Place.TheVariants.{Joins}
use Rattle.waiting_table.specs.Steps.{place_slot}
use Rattle.waiting_table.proofs.SlotLemmas.{takes_at}
use Rattle.waiting_table.proofs.waiting_table.WaitingTable.enter.Goals as goal

pub join-requires : goal.join-requires
join-requires c = record {
  within = subst (λ (p : Place). place_slot p < 256) c.in-Joins.is c.requires.within;
  takes = takes_at c.args.question.now c.args.self.now (Joins c.in-Joins.slot) (sym c.in-Joins.is ∙ c.requires.place);
}

pub fill-requires : goal.fill-requires
fill-requires c = ⊎_elim
    (λ h. subst (λ (p : Place). place_slot p < 256) h c.requires.within)
    (λ h. subst (λ (p : Place). place_slot p < 256) h c.requires.within)
    c.in-Fills.is
