use Rattle.std.proofs.Common.{rules}
use Rattle.std.specs.Ordering.{is_le}
use Rattle.denial_records.specs.declared.record.Record.{Record}
use Rattle.ordered_list.proofs.MarkLemmas.{upto_parts}
use Rattle.record_store.specs.LookUp.{set_like}
use Rattle.record_store.specs.Marks.{set_mark}
use Rattle.record_store.specs.Ranks.{set_cmp, sets_total, sets_rise}
use Rattle.record_store.proofs.set_search.last_upto.Goals as goal

pub returns-in-Some : goal.returns-in-Some
returns-in-Some c =
    let like = set_like c.args.zone.now c.args.owner.now c.args.rtype in
    record {
      in_order = c.in-Some.ensures.in_order;
      place = c.in-Some.field-0.place;
      within = c.in-Some.ensures.in_range;
      its = rw c.deref.ensures c.in-Some.ensures.value;
      last = c.in-Some.ensures.exact (λ (item : Record). is_le (set_cmp item like)) (λ x r says. search rules) (rw c.requires (upto_parts set_cmp sets_total set_mark sets_rise like c.args.sets.now c.in-Some.ensures.in_order));
      marked = rw c.deref.ensures c.in-Some.ensures.mark;
    }

pub returns-in-None : goal.returns-in-None
returns-in-None c =
    let like = set_like c.args.zone.now c.args.owner.now c.args.rtype in
    record {
      in_order = c.in-None.ensures.in_order;
      none = c.in-None.ensures.exact (λ (item : Record). is_le (set_cmp item like)) (λ x r says. search rules) (rw c.requires (upto_parts set_cmp sets_total set_mark sets_rise like c.args.sets.now c.in-None.ensures.in_order));
    }
