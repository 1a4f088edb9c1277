-- What a source that was read whole had left; what was written of a replay; and how a run of `selfrun` ends.
use Rattle.std.proofs.Common.{◌≡◌, ◌<◌, ◌⊎◌, List, [], ◌∷◌, ◌++◌, ℕ, Option, None, Some, inl, inr, length, get_or, refl, sym, ◌∙◌, ap, subst, arith}
use Rattle.std.specs.Prelude.{IfSome}
use Rattle.std.specs.List.{All}
use Rattle.std.proofs.lemmas.List.{append-nil}
use Rattle.outside_core.specs.Told.{prepend_told}
use Rattle.replay_meaning.specs.Frame.{Input}
use Rattle.replay_meaning.specs.Replay.{IsReplay, SpellsFrames}
use Rattle.worker_seats.specs.Cuts.{Part, parts_of}
use Rattle.worker_seats.specs.WalkReplay.{IsReplayBy}
use Rattle.resolver.specs.declared.answering.Answering.{Answering}
use Rattle.worker_seats.specs.Merge.{AreMerged, AreWritten, AreWrittenInPart, CanBeMerged}
use Rattle.worker_seats.proofs.MergeLemmas.{one_can}
use Rattle.running.specs.Run.{HasReplayed, IsCutShort, IsOfSelfrun, IsReplayed}
use Rattle.running.specs.Status.{status_number}
use Rattle.running.specs.declared.status.Status.{Status}
use Rattle.running.specs.declared.status.Status.TheVariants.{Good, WriteFault, OutOfMemory}

-- what holds of the octets that were read holds of what was left
pub told_whole : (P : List ℕ → Type 0) (left after : Option (List ℕ)) (octets : List ℕ) → left ≡ prepend_told octets after → IfSome after (λ rest. rest ≡ []) → P octets → IfSome left P
told_whole P left None octets is end holds = subst (λ o. IfSome o P) (sym is) tt
told_whole P left (Some rest) octets is end holds =
    subst (λ o. IfSome o P) (sym is) (subst P (sym (append-nil octets) ∙ ap (λ l. octets ++ l) (sym end)) holds)

-- so it is for the octets that it told
pub told_is : (P : List ℕ → Type 0) (left : Option (List ℕ)) (input : List ℕ) → IfSome left P → left ≡ Some input → P input
told_is P left input holds is = subst (λ o. IfSome o P) is holds

-- a run of `selfrun` ends with none of the other statuses
pub selfrun_apart : (status other : Status) → IsOfSelfrun status → status ≡ other → (status_number other ≡ 0 → ⊥) → (status_number other ≡ 5 → ⊥) → (status_number other ≡ 6 → ⊥) → ⊥
selfrun_apart status other (inl (inl good)) is a b c = a (ap status_number (sym is ∙ good))
selfrun_apart status other (inl (inr fault)) is a b c = b (ap status_number (sym is ∙ fault))
selfrun_apart status other (inr memory) is a b c = c (ap status_number (sym is ∙ memory))

-- where no call of the sink failed, it is done
pub selfrun_complete : (Failed : Type 0) (status : Status) → IsOfSelfrun status → (status ≡ WriteFault → Failed) → (Failed → ⊥) → (status ≡ Good) ⊎ (status ≡ OutOfMemory)
selfrun_complete Failed status (inl (inl good)) cause calm = inl good
selfrun_complete Failed status (inl (inr fault)) cause calm = absurd (calm (cause fault))
selfrun_complete Failed status (inr memory) cause calm = inr memory

-- ---- what was written of a replay

module _ (answering : Answering) (workers : ℕ) (frames : List Input) (outputs : List (List ℕ)) (goes : (octets output : List ℕ) → SpellsFrames workers octets frames → AreMerged outputs frames output → IsReplayBy answering workers octets output) where
  pub replayed_of : (input : List ℕ) (before after : Option (List ℕ)) → SpellsFrames workers input frames → AreWritten outputs frames before after → IsReplayed answering workers input before after
  replayed_of input before after are w = record { output = w.octets; replay = goes input w.octets are w.merged; written = w.written }

  pub cut_of : (input : List ℕ) (before after : Option (List ℕ)) → SpellsFrames workers input frames → AreWrittenInPart outputs frames before after → IsCutShort answering workers input before after
  cut_of input before after are w =
      record { output = w.octets; replay = goes input w.octets are w.merged; size = w.part.size; strict = w.part.strict; written = w.part.written }

-- where the input is lent
pub cut_by : (answering : Answering) (workers : ℕ) (frames : List Input) (outputs : List (List ℕ)) (octets input : List ℕ) (left rest before after : Option (List ℕ)) → octets ≡ input
    → ((octets output : List ℕ) → SpellsFrames workers octets frames → AreMerged outputs frames output → IsReplayBy answering workers octets output)
    → SpellsFrames workers octets frames → AreWrittenInPart outputs frames before after → left ≡ prepend_told input rest → IfSome rest (λ r. r ≡ []) → IfSome left (λ input. IsCutShort answering workers input before after)
cut_by answering workers frames outputs octets input left rest before after is goes are w told end =
    told_whole (λ i. IsCutShort answering workers i before after) left rest input told end
    (cut_of answering workers frames outputs goes input before after (subst (λ o. SpellsFrames workers o frames) is are) w)

-- where it is lent, whatever is told
pub run_by : (answering : Answering) (workers : ℕ) (frames : List Input) (outputs : List (List ℕ)) (octets input : List ℕ) (left rest before after : Option (List ℕ)) → octets ≡ input
    → ((octets output : List ℕ) → SpellsFrames workers octets frames → AreMerged outputs frames output → IsReplayBy answering workers octets output)
    → SpellsFrames workers octets frames → AreWritten outputs frames before after → left ≡ prepend_told input rest → IfSome rest (λ r. r ≡ []) → HasReplayed answering workers left rest before after
run_by answering workers frames outputs octets input left rest before after is goes are w told end = record {
  input = input;
  given = told;
  end = end;
  replayed = replayed_of answering workers frames outputs goes input before after (subst (λ o. SpellsFrames workers o frames) is are) w;
}

-- one worker's octets are the output
pub made_by_one : (outputs : List Part) (frames : List Input) (octets : List ℕ) → length outputs ≡ 1 → CanBeMerged (parts_of outputs) frames
    → ((octets output : List ℕ) → SpellsFrames 1 octets frames → AreMerged (parts_of outputs) frames output → IsReplay 1 octets output)
    → SpellsFrames 1 octets frames → (d : Part) → IsReplay 1 octets (get_or outputs 0 d).octets
made_by_one [] frames octets one merge goes are = λ d. absurd (omega (arith, one))
made_by_one (part ∷ parts) frames octets one merge goes are = λ d.
    let below = subst (λ n. All (λ (input : Input). input.worker < n) frames) (sym one) are.below in
    goes octets part.octets are (one_can (part ∷ parts) frames one below part.octets (λ e. refl) merge)
