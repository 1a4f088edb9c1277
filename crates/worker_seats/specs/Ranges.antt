-- No public clause cites this module. Ranges of the frames, and the outputs of each.
use Rattle.std.specs.Prelude.{◌≡◌, ℕ, ◌+◌, ◌*◌, ◌<◌, List, ◌++◌, length, take, get_or, Option}
use Rattle.outside_core.specs.Told.{append_told}
use Rattle.replay_meaning.specs.Frame.{Input}
use Rattle.replay_meaning.specs.OutFrame.{outputs_spelling}
use Rattle.worker_seats.specs.Cuts.{AreCuts, IsCut}
use Rattle.worker_seats.specs.Gather.{IsPartWritten}
use Rattle.worker_seats.specs.Merge.{AreMerged}
use Rattle.worker_seats.specs.Workers.{outputs_of}
use Rattle.worker_seats.specs.declared.cut.Cut.{Cut}
use Rattle.worker_seats.specs.declared.cut.TheConstants.{RANGE}

-- the cut before a range; before the first all are at their beginning
abbrev pub IsCutBefore : ℕ → List Cut → Cut → Type 0
IsCutBefore range cuts cut =
    (worker : ℕ) (inputs : List Input) (octets : List ℕ) → AreCuts worker inputs octets cuts → IsCut worker inputs octets (RANGE * range) cut

-- where each worker's next output lies, when so many frames are done
abbrev pub ArePlacesAt : List (List ℕ) → List Input → ℕ → List ℕ → Type 0
ArePlacesAt parts inputs done places =
    (octets : List ℕ) (merged : AreMerged parts inputs octets) (worker : ℕ) → worker < length places → worker < length parts
    → get_or places worker 0 ≡ length (outputs_spelling (outputs_of worker (take done merged.outputs)))

-- the octets are the outputs of a range
abbrev pub AreOfRange : List (List ℕ) → List Input → ℕ → List ℕ → Type 0
AreOfRange parts inputs range buffer =
    (octets : List ℕ) (merged : AreMerged parts inputs octets)
    → outputs_spelling (take (RANGE * (range + 1)) merged.outputs) ≡ outputs_spelling (take (RANGE * range) merged.outputs) ++ buffer

-- where the outputs of the ranges before the first were written, those before the next are written now
abbrev pub WritesRanges : List (List ℕ) → List Input → ℕ → ℕ → Option (List ℕ) → Option (List ℕ) → Type 0
WritesRanges parts inputs first next old new =
    (octets : List ℕ) (merged : AreMerged parts inputs octets) (before : Option (List ℕ))
    → old ≡ append_told before (outputs_spelling (take (RANGE * first) merged.outputs))
    → new ≡ append_told before (outputs_spelling (take (RANGE * next) merged.outputs))

-- all are written now
abbrev pub WritesRest : List (List ℕ) → List Input → ℕ → Option (List ℕ) → Option (List ℕ) → Type 0
WritesRest parts inputs first old new =
    (octets : List ℕ) (merged : AreMerged parts inputs octets) (before : Option (List ℕ))
    → old ≡ append_told before (outputs_spelling (take (RANGE * first) merged.outputs)) → new ≡ append_told before octets

-- or a strict prefix of all
abbrev pub WritesInPart : List (List ℕ) → List Input → ℕ → Option (List ℕ) → Option (List ℕ) → Type 0
WritesInPart parts inputs first old new =
    (octets : List ℕ) (merged : AreMerged parts inputs octets) (before : Option (List ℕ))
    → old ≡ append_told before (outputs_spelling (take (RANGE * first) merged.outputs)) → IsPartWritten octets before new
