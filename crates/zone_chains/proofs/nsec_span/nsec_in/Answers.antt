use Rattle.zone_chains.proofs.ChainLemmas.{in_zone}
use Rattle.zone_chains.proofs.ChosenLemmas.{nsec_placed, found_nsec}
use Rattle.zone_chains.proofs.nsec_span.nsec_in.Goals as goal

pub at-requires : goal.at-requires
at-requires c = in_zone _ c.args.arcs.now c.requires

pub nsec_of-requires : goal.nsec_of-requires
nsec_of-requires c = found_nsec _ c.args.arcs.now c.requires _ _ c.in-Some.ensures.span

pub returns-in-Some-clause-place : goal.returns-in-Some-clause-place
returns-in-Some-clause-place c = nsec_placed _ _ _ _ _ c.placed.ensures c.in-Some.ensures.place c.nsec_of.ensures
