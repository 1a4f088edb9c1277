-- Where nothing is wrong with what replies use, the zone looks their questions up to what they say.
use Rattle.std.proofs.Common.{◌≡◌, ℕ, zero, suc, ◌<◌, List, [], ◌∷◌, length, slice_get, Some, refl, arith}
use Rattle.std.specs.List.{AllZip}
use Rattle.std.proofs.lemmas.Option.{slice_get_within}
use Rattle.denial_records.specs.declared.batch.Batch.{Batch}
use Rattle.zone_meaning.specs.Zone.{Zone, IsZone}
use Rattle.soundness.specs.Sound.{HasUsed}
use Rattle.reply_core.specs.Answered.{reply_in}
use Rattle.replay_meaning.specs.Fits.{Fits}
use Rattle.replay_meaning.specs.Frame.{Input}
use Rattle.replay_meaning.specs.OutFrame.{Output}
use Rattle.replay_meaning.specs.Sound.{IsProved, IsSoundReply}
use Rattle.replay_meaning.specs.declared.out_frame.OutKind.TheVariants.{Reply}
use Rattle.replay_meaning.proofs.SoundLemmas.{replies_are_sound}
use Rattle.run_audit.specs.Clauses.{MOST_WORKERS}
use Rattle.run_audit.specs.Findings.{IsReplyTo, IsReplyAt, IsFaultless, AreFaultless, IsYes, IsFound, IsFoundIn}
use Rattle.run_audit.specs.Upheld.{IsUpheld, IsUpheldReply, IsUpheldRun, IsUpheldAtYes, YesIsUpheld}
use Rattle.run_audit.specs.declared.finding.Finding.{Finding}
use Rattle.run_audit.specs.declared.finding.Finding.TheVariants.{Yes, Unfit, Record, Clash}

-- two lists side by side, each place by what is known of it
zip_places : {A B : Type 0} (R S : A → B → Type 0) (xs : List A) (ys : List B) → ((at : ℕ) (x : A) (y : B) → slice_get xs at ≡ Some x → slice_get ys at ≡ Some y → R x y → S x y) → AllZip R xs ys → AllZip S xs ys
zip_places R S [] [] each all = tt
zip_places R S [] (y ∷ ys) each all = absurd all
zip_places R S (x ∷ xs) [] each all = absurd all
zip_places R S (x ∷ xs) (y ∷ ys) each all = (
  each zero x y refl refl all.0,
  zip_places R S xs ys (λ at x' y' there there'. each (suc at) x' y' there there') all.1,
)

module _ (zone : Zone) (is_zone : IsZone zone) (placed : List Batch) (input : Input) (output : Output) (replies : output.kind ≡ Reply) (proved : IsProved placed input output) where
  replied : IsReplyTo placed input output proved.question proved.proof
  replied = record { replies = replies; asks = proved.asks; proves = proved.proves }

  upheld_by : IsFaultless zone proved.question.name proved.proof → IsUpheld zone placed input output
  upheld_by faultless =
      let used : HasUsed zone proved.proof = record { zone_is = is_zone; each = faultless.true_records } in
      record {
        proved = proved;
        used = faultless.true_records;
        zone_for = proved.sound.zone_for zone used;
        looks_up = proved.sound.denies zone used faultless.free;
      }

module _ (zone : Zone) (is_zone : IsZone zone) (inputs : List Input) (outputs : List Output) (replies : ℕ) (yes' : IsYes zone inputs outputs replies) where
  upheld_all : AllZip (IsUpheldReply zone yes'.placed) inputs outputs
  upheld_all =
      zip_places (IsSoundReply yes'.placed) (IsUpheldReply zone yes'.placed) inputs outputs
      (λ at input output there there' sound reply.
      let proved : IsProved yes'.placed input output = sound reply in
      upheld_by zone is_zone yes'.placed input output reply proved
      (yes'.faultless at proved.question proved.proof (slice_get_within outputs at output there')
      (record { input = input; input_is = there; output = output; output_is = there'; reply = replied zone is_zone yes'.placed input output reply proved })))
      (replies_are_sound MOST_WORKERS yes'.placed inputs outputs yes'.fits.each)

by_finding : (zone : Zone) (input output : List ℕ) (finding : Finding) → IsZone zone → (is : IsFound zone input output finding) → IsFoundIn zone is.inputs is.outputs finding → IsUpheldAtYes zone input output finding
by_finding zone input output (Yes replies) is_zone is yes' = record {
  inputs = is.inputs;
  read = is.read;
  outputs = is.outputs;
  written = is.written;
  placed = yes'.placed;
  fits = yes'.fits;
  upheld = upheld_all zone is_zone is.inputs is.outputs replies yes';
}
by_finding zone input output (Unfit clause) is_zone is found = tt
by_finding zone input output (Record at used) is_zone is found = tt
by_finding zone input output (Clash at) is_zone is found = tt

pub yes_is_upheld : YesIsUpheld
yes_is_upheld zone input output finding is_zone is = by_finding zone input output finding is_zone is is.found
