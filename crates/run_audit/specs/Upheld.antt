-- What yes says of the zone: it looks each reply's question up to what the reply says.
use Rattle.std.specs.Prelude.{◌≡◌, ℕ, List}
use Rattle.std.specs.List.{All, AllZip}
use Rattle.denial_records.specs.Proof.{used_in}
use Rattle.denial_records.specs.declared.batch.Batch.{Batch}
use Rattle.zone_meaning.specs.Zone.{Zone, IsZone}
use Rattle.zone_meaning.specs.Lookup.{LooksUp, IsZoneFor}
use Rattle.soundness.specs.Sound.{said_by}
use Rattle.soundness.specs.True.{IsTrueOf}
use Rattle.reply_core.specs.Answered.{reply_in}
use Rattle.replay_meaning.specs.Fits.{Fits}
use Rattle.replay_meaning.specs.Frame.{Input}
use Rattle.replay_meaning.specs.OutFrame.{Output}
use Rattle.replay_meaning.specs.Sound.{IsProved}
use Rattle.replay_meaning.specs.declared.out_frame.OutKind.TheVariants.{Reply}
use Rattle.run_audit.specs.Clauses.{MOST_WORKERS}
use Rattle.run_audit.specs.Findings.{IsFound}
use Rattle.run_audit.specs.Spelled.{AreInputs, AreOutputs}
use Rattle.run_audit.specs.declared.finding.Finding.{Finding}
use Rattle.run_audit.specs.declared.finding.Finding.TheVariants.{Yes, Unfit, Record, Clash}

-- the output frame is the reply of a proof, all its records or cut; each record that the proof uses is true of the zone,
-- which is the one for the question, and looks its name and type up to the data, to no data or to no name, as the proof says
pub record IsUpheld (zone : Zone) (placed : List Batch) (input : Input) (output : Output) : Type 0 where
  pub proved : IsProved placed input output
  pub used : All (IsTrueOf zone) (used_in proved.proof)
  pub zone_for : IsZoneFor zone proved.question.name proved.question.qtype
  pub looks_up : LooksUp zone proved.question.name proved.question.qtype (said_by proved.proof)

-- so it is for every reply
abbrev pub IsUpheldReply : Zone → List Batch → Input → Output → Type 0
IsUpheldReply zone placed input output = output.kind ≡ Reply → IsUpheld zone placed input output

-- the octets are a run that fits, of which the zone upholds each reply
pub record IsUpheldRun (zone : Zone) (input output : List ℕ) : Type 0 where
  pub inputs : List Input
  pub read : AreInputs input inputs
  pub outputs : List Output
  pub written : AreOutputs output outputs
  pub placed : List Batch
  pub fits : Fits reply_in inputs MOST_WORKERS placed outputs
  pub upheld : AllZip (IsUpheldReply zone placed) inputs outputs

-- it is, where yes is found
abbrev pub IsUpheldAtYes : Zone → List ℕ → List ℕ → Finding → Type 0
IsUpheldAtYes zone input output (Yes replies) = IsUpheldRun zone input output
IsUpheldAtYes zone input output (Unfit clause) = Unit {0}
IsUpheldAtYes zone input output (Record at used) = Unit {0}
IsUpheldAtYes zone input output (Clash at) = Unit {0}

-- ---- law

abbrev pub YesIsUpheld : Type 0
YesIsUpheld =
    (zone : Zone) (input output : List ℕ) (finding : Finding)
    → IsZone zone → IsFound zone input output finding → IsUpheldAtYes zone input output finding
