-- A frame does one thing.
use Rattle.std.proofs.Common.{◌≡◌, ℕ, ◌⊎◌, inl, inr, Bool, false, List, refl, sym, ◌∙◌, ap, subst}
use Rattle.std.specs.Prelude.{Result, Ok, Err}
use Rattle.dnswire.specs.declared.query_read.QueryRead.{QueryRead}
use Rattle.dnswire.specs.declared.query_read.QueryRead.TheVariants as reads
use Rattle.dnswire.proofs.QueryLemmas.{one_read}
use Rattle.intake.specs.Batch.{Gives}
use Rattle.intake.specs.declared.taken.Taken.{Taken}
use Rattle.intake.specs.declared.intake_fault.IntakeFault.{IntakeFault}
use Rattle.intake.specs.declared.intake_fault.IntakeFault.TheVariants.{OutOfMemory}
use Rattle.intake.proofs.BatchLemmas.{every}
use Rattle.replay_meaning.specs.Frame.{Input}
use Rattle.replay_meaning.specs.Fits.{is_call, is_placed}
use Rattle.replay_meaning.specs.Step.{Step, Query, Insert, Tell, query_step, answer_step, DoesBy, Does}
use Rattle.replay_meaning.specs.declared.frame.FrameKind.{FrameKind}
use Rattle.replay_meaning.specs.declared.frame.FrameKind.TheVariants as kinds

-- octets have one outcome of intake
settled : (octets : List ℕ) (now : ℕ) (given other : Result Taken IntakeFault) → Gives octets now given → (given ≡ other) ⊎ (given ≡ Err OutOfMemory) → given ≡ other
settled octets now given other gives (inl same) = same
settled octets now given other gives (inr out) = absurd (subst (Gives octets now) out gives)

one_given : (octets : List ℕ) (now : ℕ) (given other : Result Taken IntakeFault) → Gives octets now given → Gives octets now other → given ≡ other
one_given octets now (Ok taken) other gives gives' = settled octets now (Ok taken) other gives (every octets now (Ok taken) other gives tt gives')
one_given octets now (Err fault) other gives gives' = settled octets now (Err fault) other gives (every octets now (Err fault) other tt (inr gives) gives')

one_step_by : (kind : FrameKind) (now : ℕ) (message : List ℕ) (step step' : Step) → DoesBy kind now message step → DoesBy kind now message step' → step ≡ step'
one_step_by kinds.Query now message step step' (read, reads, is) (read', reads', is') = is ∙ ap query_step (one_read message read read' reads reads') ∙ sym is'
one_step_by kinds.Upstream now message step step' (given, gives, is) (given', gives', is') = is ∙ ap answer_step (one_given message now given given' gives gives') ∙ sym is'

pub one_step : (input : Input) (step step' : Step) → Does input step → Does input step' → step ≡ step'
one_step input = one_step_by input.kind input.now input.message

-- a frame that is told makes no call
pub record IsNoCall (called placed : Bool) : Type 0 where
  pub not_called : called ≡ false
  pub not_placed : placed ≡ false

abbrev pub TellsNoCall : Step → Type 0
TellsNoCall (Query question) = Unit {0}
TellsNoCall (Insert taken) = Unit {0}
TellsNoCall (Tell kind body) = IsNoCall (is_call kind) (is_placed kind)

query_tells : (read : QueryRead) → TellsNoCall (query_step read)
query_tells reads.Dropped = record { not_called = refl; not_placed = refl }
query_tells (reads.NotImp head) = record { not_called = refl; not_placed = refl }
query_tells (reads.FormErr head) = record { not_called = refl; not_placed = refl }
query_tells (reads.BadVers question) = record { not_called = refl; not_placed = refl }
query_tells (reads.Query question) = tt

answer_tells : (given : Result Taken IntakeFault) → TellsNoCall (answer_step given)
answer_tells (Ok taken) = tt
answer_tells (Err fault) = record { not_called = refl; not_placed = refl }

does_tells : (kind : FrameKind) (now : ℕ) (message : List ℕ) (step : Step) → DoesBy kind now message step → TellsNoCall step
does_tells kinds.Query now message step (read, reads, is) = subst TellsNoCall (sym is) (query_tells read)
does_tells kinds.Upstream now message step (given, gives, is) = subst TellsNoCall (sym is) (answer_tells given)

pub tells_no_call : (input : Input) (step : Step) → Does input step → TellsNoCall step
tells_no_call input = does_tells input.kind input.now input.message
