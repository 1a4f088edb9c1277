-- What an audit finds of a zone and a run: the first clause of what fits that the run breaks; or else, of the replies in the
-- order of frames, the first that uses a record that isn't true of the zone, or by whose hash names of the zone clash.
use Rattle.std.specs.Prelude.{◌≡◌, ℕ, ◌<◌, List, length, take, slice_get, count_by, Some}
use Rattle.std.specs.List.{All}
use Rattle.dname.specs.Name.{Label}
use Rattle.dnswire.specs.Query.{IsReadAs}
use Rattle.dnswire.specs.declared.question.Question.{Question}
use Rattle.dnswire.specs.declared.query_read.QueryRead.TheVariants.{Query}
use Rattle.denial_records.specs.Proof.{Proof, used_in}
use Rattle.denial_records.specs.declared.batch.Batch.{Batch}
use Rattle.denial_records.specs.declared.record.Record as kept
use Rattle.cache_meaning.specs.Held.{held_of}
use Rattle.zone_meaning.specs.Zone.{Zone}
use Rattle.soundness.specs.True.{IsTrueOf, IsClashFreeFor}
use Rattle.reply_core.specs.Answered.{proof_in, reply_in}
use Rattle.replay_meaning.specs.Fits.{Fits}
use Rattle.replay_meaning.specs.Frame.{Input}
use Rattle.replay_meaning.specs.OutFrame.{Output}
use Rattle.replay_meaning.specs.declared.out_frame.OutKind.TheVariants.{Reply}
use Rattle.run_audit.specs.Clauses.{MOST_WORKERS, IsFirstBroken}
use Rattle.run_audit.specs.Spelled.{AreInputs, AreOutputs}
use Rattle.run_audit.specs.Replies.{is_reply}
use Rattle.run_audit.specs.declared.finding.Finding.{Finding}
use Rattle.run_audit.specs.declared.finding.Finding.TheVariants.{Yes, Unfit, Record, Clash}

-- ---- one reply

-- where these batches are placed, the output frame is a reply to the question, by the proof that the records held at its
-- version have for it
pub record IsReplyTo (placed : List Batch) (input : Input) (output : Output) (question : Question) (proof : Proof) : Type 0 where
  pub replies : output.kind ≡ Reply
  pub asks : IsReadAs input.message (Query question)
  pub proves : proof_in (held_of (take output.version placed)) question input.now ≡ Some proof

-- each record that the proof uses is true of the zone, and by no hash of theirs is a name of the zone taken for another of
-- those that the question turns on
pub record IsFaultless (zone : Zone) (name : List Label) (proof : Proof) : Type 0 where
  pub true_records : All (IsTrueOf zone) (used_in proof)
  pub free : All (IsClashFreeFor zone name) (used_in proof)

-- the used record at this place, counted from 0, isn't true of the zone, and those before it are
pub record IsFirstFalse (zone : Zone) (proof : Proof) (used : ℕ) : Type 0 where
  pub item : kept.Record
  pub there : slice_get (used_in proof) used ≡ Some item
  pub untrue : IsTrueOf zone item → ⊥
  pub before : All (IsTrueOf zone) (take used (used_in proof))

-- each used record is true of the zone, and a name clashes
pub record IsClashing (zone : Zone) (name : List Label) (proof : Proof) : Type 0 where
  pub true_records : All (IsTrueOf zone) (used_in proof)
  pub taken : All (IsClashFreeFor zone name) (used_in proof) → ⊥

-- ---- all replies

-- the frame at the place, counted from 0 over all frames, is such a reply
pub record IsReplyAt (placed : List Batch) (inputs : List Input) (outputs : List Output) (at : ℕ) (question : Question) (proof : Proof) : Type 0 where
  pub input : Input
  pub input_is : slice_get inputs at ≡ Some input
  pub output : Output
  pub output_is : slice_get outputs at ≡ Some output
  pub reply : IsReplyTo placed input output question proof

-- of the first so many frames each reply is without a fault
abbrev pub AreFaultless : Zone → List Batch → List Input → List Output → ℕ → Type 0
AreFaultless zone placed inputs outputs count =
    (at : ℕ) (question : Question) (proof : Proof) → at < count → IsReplyAt placed inputs outputs at question proof
    → IsFaultless zone question.name proof

-- the run fits, and no reply has a fault
pub record IsYes (zone : Zone) (inputs : List Input) (outputs : List Output) (replies : ℕ) : Type 0 where
  pub placed : List Batch
  pub fits : Fits reply_in inputs MOST_WORKERS placed outputs
  pub faultless : AreFaultless zone placed inputs outputs (length outputs)
  pub number : replies ≡ count_by is_reply outputs

-- the run fits, the replies before this one have no fault, and of this one the first record that isn't true has this place
pub record IsRecordAt (zone : Zone) (inputs : List Input) (outputs : List Output) (at used : ℕ) : Type 0 where
  pub placed : List Batch
  pub fits : Fits reply_in inputs MOST_WORKERS placed outputs
  pub faultless : AreFaultless zone placed inputs outputs at
  pub question : Question
  pub proof : Proof
  pub reply : IsReplyAt placed inputs outputs at question proof
  pub first : IsFirstFalse zone proof used

-- the run fits, the replies before this one have no fault, and at this one names clash
pub record IsClashAt (zone : Zone) (inputs : List Input) (outputs : List Output) (at : ℕ) : Type 0 where
  pub placed : List Batch
  pub fits : Fits reply_in inputs MOST_WORKERS placed outputs
  pub faultless : AreFaultless zone placed inputs outputs at
  pub question : Question
  pub proof : Proof
  pub reply : IsReplyAt placed inputs outputs at question proof
  pub clashes : IsClashing zone question.name proof

-- ---- the finding

abbrev pub IsFoundIn : Zone → List Input → List Output → Finding → Type 0
IsFoundIn zone inputs outputs (Yes replies) = IsYes zone inputs outputs replies
IsFoundIn zone inputs outputs (Unfit clause) = IsFirstBroken inputs outputs clause
IsFoundIn zone inputs outputs (Record at used) = IsRecordAt zone inputs outputs at used
IsFoundIn zone inputs outputs (Clash at) = IsClashAt zone inputs outputs at

-- of the octets of a run
pub record IsFound (zone : Zone) (input output : List ℕ) (finding : Finding) : Type 0 where
  pub inputs : List Input
  pub read : AreInputs input inputs
  pub outputs : List Output
  pub written : AreOutputs output outputs
  pub found : IsFoundIn zone inputs outputs finding
