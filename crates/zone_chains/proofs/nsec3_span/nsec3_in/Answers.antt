use Rattle.zone_chains.proofs.ChosenLemmas.{nsec3_placed, found_nsec3}
use Rattle.zone_chains.proofs.nsec3_span.nsec3_in.Goals as goal

pub nsec3_of-requires : goal.nsec3_of-requires
nsec3_of-requires c = found_nsec3 c.args.arcs.now c.requires _ _ c.in-Some.ensures.span

pub returns-in-Some-clause-place : goal.returns-in-Some-clause-place
returns-in-Some-clause-place c = nsec3_placed _ _ _ _ _ c.placed.ensures c.in-Some.ensures.place c.nsec3_of.ensures
