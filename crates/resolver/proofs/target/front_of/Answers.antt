use Rattle.resolver.proofs.TargetLemmas.{front_octets}
use Rattle.resolver.proofs.target.front_of.Goals as goal

pub slice_bounds-result-count : goal.slice_bounds-result-count
slice_bounds-result-count c =
    (front_octets c.args.name.now c.args.owner.now _ _ c.requires c.wire-wire.ensures.spelled c.wire.ensures.spelled).0

pub returns-clause-spelled : goal.returns-clause-spelled
returns-clause-spelled c =
    (front_octets c.args.name.now c.args.owner.now _ _ c.requires c.wire-wire.ensures.spelled c.wire.ensures.spelled).1
