use Rattle.std.proofs.Common.{◌+◌, List, sym, subst}
use Rattle.std.specs.Arc.{arc_value}
use Rattle.std.proofs.lemmas.Result.{IfOk-weaker}
use Rattle.dname.specs.Name.{Label}
use Rattle.denial_records.specs.declared.record.Record.{Record}
use Rattle.cache_meaning.specs.Held.{zone_of}
use Rattle.ordered_list.specs.Order.{IsRank, with_entry}
use Rattle.record_store.specs.declared.counts.SetCount.{SetCount}
use Rattle.record_store.specs.Counts.{count_at, AreCounted, IsRecounted}
use Rattle.record_store.specs.Ranks.{set_cmp}
use Rattle.record_store.proofs.CountLemmas.{counted_replaced, counted_more}
use Rattle.record_store.proofs.sets.Sets.counts_with.Goals as goal

pub returns-then-rank : goal.returns-then-rank
returns-then-rank c =
    let sets = c.self.inside.list in
    let new = c.args.new.now in
    let rank = subst (λ (l : List Record). IsRank set_cmp new l c.args.rank.from c.args.rank.to) (sym c.self.view_is) c.requires in
    IfOk-weaker c.try_clone.result _ (λ counts. AreCounted (with_entry set_cmp new c.args.self.now) (arc_value counts))
    (λ counts is. subst (λ (l : List Record). AreCounted (with_entry set_cmp new l) (arc_value counts)) c.self.view_is
    (subst (AreCounted (with_entry set_cmp new sets)) (sym is)
    (counted_replaced sets c.self.invariant.in_order new (arc_value c.self.inside.counts) c.self.invariant c.args.rank.from c.args.rank.to rank c.if-rank.true))) c.try_clone.ensures

pub returns : goal.returns
returns c =
    let sets = c.self.inside.list in
    let new = c.args.new.now in
    let rank = subst (λ (l : List Record). IsRank set_cmp new l c.args.rank.from c.args.rank.to) (sym c.self.view_is) c.requires in
    let was = c.deref.result.now in
    let made = c.in_ok-counts.counts in
    let here = subst (λ (z : List Label). IsRecounted z (count_at z was + 1) was made) c.zone_of.ensures c.in_ok-counts.ensures in
    let is = subst (λ (l : List SetCount). IsRecounted (zone_of new) (count_at (zone_of new) l + 1) l made) c.deref.ensures here in
    subst (λ (l : List Record). AreCounted (with_entry set_cmp new l) (arc_value c.in_ok-new.field-0)) c.self.view_is
    (subst (AreCounted (with_entry set_cmp new sets)) (sym c.in_ok-new.ensures.ok)
    (counted_more sets c.self.invariant.in_order new (arc_value c.self.inside.counts) c.self.invariant c.args.rank.from c.args.rank.to rank c.if-rank.false made is))
