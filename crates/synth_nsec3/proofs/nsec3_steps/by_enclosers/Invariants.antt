use Rattle.synth_nsec3.specs.ChainAt.{chain_at}
use Rattle.synth_nsec3.proofs.WalkLemmas.{Walks}
use Rattle.synth_nsec3.proofs.nsec3_steps.by_enclosers.Given as goal

abbrev pub invariant-loop-encloser : goal.invariant-loop-encloser
invariant-loop-encloser g l = Walks (chain_at g.Z.HeldZone.zone l.chain) l.qtype l.name l.asked l.encloser-iterator
