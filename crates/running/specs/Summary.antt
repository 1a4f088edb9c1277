-- The seven lines of `selfrun`.
use Rattle.std.specs.Prelude.{◌≡◌, ℕ, ◌+◌, ◌*◌, ◌%◌, ◌<◌, ◌==◌, ◌&&◌, Bool, not, List, ◌++◌, length, take, filter, codes, decimal, get_or, Option}
use Rattle.outside_core.specs.Told.{append_told}
use Rattle.replay_meaning.specs.declared.out_frame.OutKind.TheVariants.{Reply, Forward, Stored}
use Rattle.replay_meaning.specs.OutFrame.{Output, out_number}
use Rattle.running.specs.Made.{AreMadeOutputs}
use Rattle.running.specs.declared.summary.Counted.{Counted}
use Rattle.running.specs.declared.summary.Counted.TheVariants.{Batches, Answers, NoData, NameErrors, Forwards}

-- the RCODE of a reply: the low four bits of its fourth octet (RFC 1035, section 4.1.1)
abbrev pub rcode_of : List ℕ → ℕ
rcode_of reply = get_or reply 3 0 % 16

-- the number of records in its answer section
abbrev pub answers_in : List ℕ → ℕ
answers_in reply = get_or reply 6 0 * 256 + get_or reply 7 0

-- whether a frame of this kind, with this body, counts
abbrev pub counts_as : Counted → ℕ → List ℕ → Bool
counts_as Batches kind body = kind == out_number Stored
counts_as Answers kind body = kind == out_number Reply && (rcode_of body == 0 && not (answers_in body == 0))
counts_as NoData kind body = kind == out_number Reply && (rcode_of body == 0 && answers_in body == 0)
counts_as NameErrors kind body = kind == out_number Reply && rcode_of body == 3
counts_as Forwards kind body = kind == out_number Forward

abbrev pub is_counted : Counted → Output → Bool
is_counted counted output = counts_as counted (out_number output.kind) output.body

-- how many of the frames count
abbrev pub count_of : Counted → List Output → ℕ
count_of counted outputs = length (filter (is_counted counted) outputs)

-- a word, a blank, a number, and a line feed
abbrev pub line : List ℕ → ℕ → List ℕ
line word number = word ++ codes " " ++ decimal number ++ codes "\n"

-- the first and the third line say what was asked for, the others what became of it
unfoldable pub summary : ℕ → ℕ → List Output → List ℕ
summary names queries outputs =
    line (codes "names") names
    ++ line (codes "batches") (count_of Batches outputs)
    ++ line (codes "queries") queries
    ++ line (codes "answers") (count_of Answers outputs)
    ++ line (codes "no-data") (count_of NoData outputs)
    ++ line (codes "name-errors") (count_of NameErrors outputs)
    ++ line (codes "forwards") (count_of Forwards outputs)

-- the text is the summary of what became of the made frames
pub record IsMadeSummary (seed names queries : ℕ) (text : List ℕ) : Type 0 where
  pub outputs : List Output
  pub made : AreMadeOutputs seed names queries outputs
  pub lines : text ≡ summary names queries outputs

-- the sink has got the whole summary
pub record IsSummed (seed names queries : ℕ) (before after : Option (List ℕ)) : Type 0 where
  pub text : List ℕ
  pub made : IsMadeSummary seed names queries text
  pub written : after ≡ append_told before text

-- or a strict prefix of it
pub record IsSummedInPart (seed names queries : ℕ) (before after : Option (List ℕ)) : Type 0 where
  pub text : List ℕ
  pub made : IsMadeSummary seed names queries text
  pub size : ℕ
  pub strict : size < length text
  pub written : after ≡ append_told before (take size text)
