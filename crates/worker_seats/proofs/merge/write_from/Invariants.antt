use Rattle.std.proofs.Common.{◌≡◌, ℕ, ◌*◌, List, length, take, Option}
use Rattle.outside_core.specs.Told.{append_told}
use Rattle.replay_meaning.specs.OutFrame.{outputs_spelling}
use Rattle.worker_seats.specs.Cuts.{parts_of}
use Rattle.worker_seats.specs.Merge.{AreMerged}
use Rattle.worker_seats.specs.declared.cut.TheConstants.{RANGE}
use Rattle.worker_seats.proofs.MergeLemmas.{HasTold, StandsAt}
use Rattle.worker_seats.proofs.merge.write_from.Given as goal

abbrev pub invariant-loop-owner : goal.invariant-loop-owner
invariant-loop-owner g l = record {
  done : ℕ;
  stands : StandsAt (parts_of l.outputs) l.frames done l.rest l.places;
  told : (octets : List ℕ) (merged : AreMerged (parts_of l.outputs) l.frames octets) (before : Option (List ℕ))
      → g.K.Sink.written l.initial.sink ≡ append_told before (outputs_spelling (take (RANGE * l.fn.range) merged.outputs))
      → HasTold (outputs_spelling (take done merged.outputs)) l.gathered.items before (g.K.Sink.written l.sink);
  faults : g.K.Sink.faults l.sink ≡ g.K.Sink.faults l.initial.sink;
}

abbrev pub decreases-loop-owner : goal.decreases-loop-owner
decreases-loop-owner g l = length l.rest
