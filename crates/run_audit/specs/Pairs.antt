-- An input frame with its output frame, as the inner steps keep them. No public clause cites this module.
use Rattle.std.specs.Prelude.{◌≡◌, ℕ, ◌+◌, ◌*◌, ◌<◌, Bool, true, cond, List, length, map, count_by, take, get_or}
use Rattle.std.specs.List.{All}
use Rattle.replay_meaning.specs.Frame.{Input, input_of}
use Rattle.replay_meaning.specs.OutFrame.{Output, output_of}
use Rattle.replay_meaning.specs.Fits.{is_placed}
use Rattle.run_audit.specs.Clauses.{MOST_WORKERS, IsOneWorkers}
use Rattle.run_audit.specs.declared.pair.FramePair.{FramePair}

abbrev pub input_in : FramePair → Input
input_in pair = input_of pair.frame

abbrev pub output_in : FramePair → Output
output_in pair = output_of pair.output

abbrev pub inputs_in : List FramePair → List Input
inputs_in pairs = map input_in pairs

abbrev pub outputs_in : List FramePair → List Output
outputs_in pairs = map output_in pairs

-- the pair's output frame places a batch
abbrev pub is_put : FramePair → Bool
is_put pair = is_placed pair.output.kind

abbrev pub version_in : FramePair → ℕ
version_in pair = pair.output.version

-- by version; what places a version comes before what meets it
abbrev pub rank_of : FramePair → ℕ
rank_of pair = 2 * version_in pair + cond (is_put pair) 0 1

-- how many of the first so many pairs place a batch
abbrev pub put_before : ℕ → List FramePair → ℕ
put_before count pairs = count_by is_put (take count pairs)

-- the placed versions are 1, 2 and so on, in turn
abbrev pub AreInTurn : List FramePair → Type 0
AreInTurn pairs =
    (i : ℕ) (d : FramePair) → i < length pairs → is_put (get_or pairs i d) ≡ true
    → version_in (get_or pairs i d) ≡ put_before i pairs + 1

-- of one worker
abbrev pub IsMatched : FramePair → Type 0
IsMatched pair = IsOneWorkers MOST_WORKERS (input_in pair) (output_in pair)

abbrev pub AreMatched : List FramePair → Type 0
AreMatched pairs = All IsMatched pairs

-- each has its own place
abbrev pub AreAtPlaces : List FramePair → Type 0
AreAtPlaces pairs = (i : ℕ) (d : FramePair) → i < length pairs → (get_or pairs i d).at ≡ i
