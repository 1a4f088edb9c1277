use Rattle.std.proofs.Common.{◌<◌, ◌-◌, List, Contains, sym, subst}
use Rattle.std.specs.Arc.{arc_value}
use Rattle.dname.specs.Name.{Label}
use Rattle.denial_records.specs.declared.record.Record.{Record}
use Rattle.cache_meaning.specs.Held.{zone_of}
use Rattle.ordered_list.specs.Order.{without_entry}
use Rattle.record_store.specs.declared.counts.SetCount.{SetCount}
use Rattle.record_store.specs.Counts.{count_at, AreCounted, IsRecounted}
use Rattle.record_store.specs.Ranks.{set_cmp}
use Rattle.record_store.proofs.CountLemmas.{counted_here, counted_less}
use Rattle.record_store.proofs.sets.Sets.counts_without.Goals as goal

pub one_less-requires : goal.one_less-requires
one_less-requires c =
    let gone = c.args.gone.now in
    let has = subst (λ (l : List Record). Contains l gone) (sym c.self.view_is) c.requires in
    subst (λ (z : List Label). 0 < count_at z c.deref.result.now) (sym c.zone_of.ensures)
    (subst (λ (l : List SetCount). 0 < count_at (zone_of gone) l) (sym c.deref.ensures)
    (counted_here c.self.inside.list c.self.invariant.in_order gone (arc_value c.self.inside.counts) c.self.invariant has))

pub returns : goal.returns
returns c =
    let sets = c.self.inside.list in
    let gone = c.args.gone.now in
    let has = subst (λ (l : List Record). Contains l gone) (sym c.self.view_is) c.requires in
    let was = c.deref.result.now in
    let made = c.in_ok-counts.counts in
    let here = subst (λ (z : List Label). IsRecounted z (count_at z was - 1) was made) c.zone_of.ensures c.in_ok-counts.ensures in
    let is = subst (λ (l : List SetCount). IsRecounted (zone_of gone) (count_at (zone_of gone) l - 1) l made) c.deref.ensures here in
    subst (λ (l : List Record). AreCounted (without_entry set_cmp gone l) (arc_value c.in_ok-new.field-0)) c.self.view_is
    (subst (AreCounted (without_entry set_cmp gone sets)) (sym c.in_ok-new.ensures.ok)
    (counted_less sets c.self.invariant.in_order gone (arc_value c.self.inside.counts) c.self.invariant has made is))
