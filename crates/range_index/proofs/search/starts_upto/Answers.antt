use Rattle.std.proofs.Common.{rules}
use Rattle.std.specs.Ordering.{is_le}
use Rattle.range_index.proofs.MarkLemmas.{upto_parts}
use Rattle.range_index.proofs.search.starts_upto.Goals as goal

pub returns-clause-value : goal.returns-clause-value
returns-clause-value g c =
    let cmp = g.R.Key.Ord.cmp in
    let ring = g.R.RingSpan in
    let key = c.args.key.now in
    let parts = upto_parts cmp g.met.R.Key.Ord.total ring.start ring.origin ring.mark g.met.R.RingSpan.marks_rise c.args.origin.now key c.args.list.now c.requires.origin c.requires.parted in
    c.find_at.ensures.exact (λ x. is_le (cmp (ring.start x) key)) (λ x r says. search rules) (rw c.mark.ensures parts)
