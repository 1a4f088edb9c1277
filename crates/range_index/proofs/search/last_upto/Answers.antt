use Rattle.std.proofs.Common.{rules, sym}
use Rattle.std.specs.Arc.{arc_value}
use Rattle.std.specs.Ordering.{is_le}
use Rattle.range_index.proofs.MarkLemmas.{upto_parts, tells}
use Rattle.range_index.proofs.search.last_upto.Goals as goal

pub returns-in-Some-clause-place : goal.returns-in-Some-clause-place
returns-in-Some-clause-place g c =
    let cmp = g.R.Key.Ord.cmp in
    let ring = g.R.RingSpan in
    let key = c.args.key.now in
    let parts = upto_parts cmp g.met.R.Key.Ord.total ring.start ring.origin ring.mark g.met.R.RingSpan.marks_rise c.args.origin.now key c.args.list.now c.requires.origin c.requires.parted in
    c.in-Some.ensures.exact (λ x. is_le (cmp (ring.start x) key)) (λ x r says. search rules) (rw c.mark-mark.ensures parts)

pub returns-in-None-clause-place : goal.returns-in-None-clause-place
returns-in-None-clause-place g c =
    let cmp = g.R.Key.Ord.cmp in
    let ring = g.R.RingSpan in
    let key = c.args.key.now in
    let parts = upto_parts cmp g.met.R.Key.Ord.total ring.start ring.origin ring.mark g.met.R.RingSpan.marks_rise c.args.origin.now key c.args.list.now c.requires.origin c.requires.parted in
    c.in-None.ensures.exact (λ x. is_le (cmp (ring.start x) key)) (λ x r says. search rules) (rw c.mark-mark.ensures parts)

pub returns-in-Some-clause-marks : goal.returns-in-Some-clause-marks
returns-in-Some-clause-marks g c =
    let ring = g.R.RingSpan in
    let last = arc_value c.in-Some.last.share.now in
    tells g.R.Key.Ord.cmp g.met.R.Key.Ord.total ring.start ring.origin ring.mark g.met.R.RingSpan.marks_rise c.args.origin.now c.args.key.now ring.end c.args.list.now c.requires.origin last (c.in-Some.last.place, c.in-Some.ensures.in_range, sym c.in-Some.ensures.value) c.mark-mark.result c.in-Some.last.mark c.in-Some.last.note c.mark-mark.ensures c.in-Some.ensures.mark c.in-Some.ensures.note
