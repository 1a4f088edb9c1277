use Rattle.std.proofs.Common.{refl}
use Rattle.range_index.proofs.SpanLemmas.{upto_parted, candidate_upto, candidate_last}
use Rattle.range_index.proofs.search.candidate.Goals as goal

pub returns-in-Some-clause-only : goal.returns-in-Some-clause-only
returns-in-Some-clause-only g c =
    rw c.in-Some.ensures.started
    (candidate_upto _ g.met.R.Key.Ord.total _ _ c.args.list.now c.requires.arcs c.args.key.now _ c.in-Some.ensures.place)

pub returns-in-None-clause-only : goal.returns-in-None-clause-only
returns-in-None-clause-only g c =
    candidate_last _ g.met.R.Key.Ord.total _ _ c.args.list.now c.requires.arcs c.args.key.now _ _ refl c.in-None.ensures.place c.len-place.ensures c.requires.some

pub last_upto-requires-clause-parted : goal.last_upto-requires-clause-parted
last_upto-requires-clause-parted g c = upto_parted _ g.met.R.Key.Ord.total _ g.R.RingSpan.end c.args.list.now c.requires.arcs _
