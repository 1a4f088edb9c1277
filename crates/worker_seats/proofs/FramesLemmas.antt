-- Frames, read one by one.
use Rattle.std.proofs.Common.{◌≡◌, ℕ, zero, suc, ◌*◌, ◌<◌, ◌≤◌, Bool, true, false, Option, None, Some, List, [], ◌∷◌, ◌++◌, length, take, drop, refl, sym, ◌∙◌, ap, subst, arith, length-append, append_assoc}
use Rattle.std.specs.List.{All}
use Rattle.std.specs.Prelude.{MatchOption}
use Rattle.std.specs.Bool.{◌==◌}
use Rattle.std.proofs.lemmas.Bool.{false≢true}
use Rattle.std.proofs.lemmas.Bool.Decides.{Decides-eqb}
use Rattle.std.proofs.lemmas.List.{append-nil, drop_at, nil_from_length, take_at}
use Rattle.std.proofs.lemmas.List.Elements.{All-nil, All-push, All-head, All-tail}
use Rattle.byteorder.specs.Numbers.{big_number-reads_back}
use Rattle.replay_meaning.specs.Frame.{Input, IsInput, input_of, input_spelling, inputs_spelling, kind_number}
use Rattle.replay_meaning.specs.Replay.{AreFrames, SpellsFrames}
use Rattle.replay_meaning.specs.declared.frame.Frame.{Frame}
use Rattle.replay_meaning.specs.declared.frame.FrameKind.{FrameKind}
use Rattle.replay_meaning.specs.declared.frame.FrameKind.TheVariants.{Query, Upstream}
use Rattle.replay_meaning.proofs.FrameLemmas.{inputs_front, one_input, spelling-push}
use Rattle.worker_seats.specs.Frames.{AreSpelled, front_of, inputs_in, inputs_upto, kind_of, size_of}

-- ---- the frames by the octets alone

kind_back : (kind : FrameKind) → kind_of (kind_number kind) ≡ kind
kind_back Query = refl
kind_back Upstream = refl

module _ (input : Input) (rest : List ℕ) (fits : IsInput input) where
  size_is : size_of (input_spelling input ++ rest) ≡ length input.message
  size_is = big_number-reads_back 2 (length input.message) [] fits.message_fits

  front_is : front_of (input_spelling input ++ rest) ≡ input
  front_is =
      let kinds = kind_back input.kind in
      let moment = big_number-reads_back 4 input.now [] fits.now_fits in
      let octets : take (size_of (input_spelling input ++ rest)) (input.message ++ rest) ≡ input.message =
      ap (λ n. take n (input.message ++ rest)) size_is ∙ take_at input.message rest (length input.message) refl in
      λ i. record { kind = kinds i; worker = input.worker; now = moment i; message = octets i }

  behind_is : drop (size_of (input_spelling input ++ rest)) (input.message ++ rest) ≡ rest
  behind_is = ap (λ n. drop n (input.message ++ rest)) size_is ∙ drop_at input.message rest (length input.message) refl

-- a frame has eight octets at least
spelled_long : (inputs : List Input) → 8 * length inputs ≤ length (inputs_spelling inputs)
spelled_long [] = omega arith
spelled_long (input ∷ inputs) = omega (arith, length-append (input_spelling input) (inputs_spelling inputs), spelled_long inputs)

inputs_back : (most : ℕ) (inputs : List Input) → All IsInput inputs → length inputs ≤ most → inputs_upto most (inputs_spelling inputs) ≡ inputs
unfolding inputs_upto
inputs_back zero [] valid few = refl
inputs_back zero (input ∷ inputs) valid few = absurd (omega (arith, few))
inputs_back (suc most) [] valid few = refl
inputs_back (suc most) (input ∷ inputs) valid few =
    let fits = All-head IsInput input inputs valid in
    let front = front_is input (inputs_spelling inputs) fits in
    let rest = ap (inputs_upto most) (behind_is input (inputs_spelling inputs) fits) ∙ inputs_back most inputs (All-tail IsInput input inputs valid) (omega (arith, few)) in
    λ i. front i ∷ rest i

-- the octets of frames have these frames in them
pub inputs_are : (octets : List ℕ) (inputs : List Input) → octets ≡ inputs_spelling inputs → All IsInput inputs → inputs_in octets ≡ inputs
inputs_are octets inputs is valid = ap inputs_in is ∙ inputs_back (length (inputs_spelling inputs)) inputs valid (omega (arith, spelled_long inputs))

pub frames_in : (workers : ℕ) (octets : List ℕ) → AreFrames workers octets → SpellsFrames workers octets (inputs_in octets)
frames_in workers octets (inputs, frames) = subst (SpellsFrames workers octets) (sym (inputs_are octets inputs frames.spelled frames.valid)) frames

pub few_frames : (workers : ℕ) (octets : List ℕ) (inputs : List Input) → SpellsFrames workers octets inputs → 8 * length inputs ≤ length octets
few_frames workers octets inputs frames = omega (arith, ap length frames.spelled, spelled_long inputs)

-- ---- whether octets are frames

-- the octets before the rest spell frames for so many workers
pub record HasFrames (workers : ℕ) (octets rest : List ℕ) : Type 0 where
  pub inputs : List Input
  pub spelled : octets ≡ inputs_spelling inputs ++ rest
  pub valid : All IsInput inputs
  pub below : All (λ input. input.worker < workers) inputs

pub frames_none : (workers : ℕ) (octets : List ℕ) → HasFrames workers octets octets
frames_none workers octets = record { inputs = []; spelled = refl; valid = All-nil IsInput; below = All-nil (λ (input : Input). input.worker < workers) }

pub frames_more : (workers : ℕ) (octets rest after : List ℕ) (input : Input) → HasFrames workers octets rest → IsInput input → input.worker < workers → rest ≡ input_spelling input ++ after → HasFrames workers octets after
frames_more workers octets rest after input has valid below is = record {
  inputs = has.inputs ++ input ∷ [];
  spelled = has.spelled ∙ ap (λ l. inputs_spelling has.inputs ++ l) is ∙ sym (append_assoc (inputs_spelling has.inputs) (input_spelling input) after)
      ∙ ap (λ l. l ++ after) (sym (spelling-push input_spelling has.inputs input));
  valid = All-push IsInput has.inputs input has.valid valid;
  below = All-push (λ (input : Input). input.worker < workers) has.inputs input has.below below;
}

pub frames_all : (workers : ℕ) (octets rest : List ℕ) → HasFrames workers octets rest → rest ≡ [] → AreFrames workers octets
frames_all workers octets rest has none = (
  has.inputs,
  record { spelled = has.spelled ∙ ap (λ l. inputs_spelling has.inputs ++ l) none ∙ append-nil (inputs_spelling has.inputs); valid = has.valid; below = has.below },
)

-- what holds of all holds of the first after some
first_after : (P : Input → Type 0) (front : List Input) (x : Input) (back : List Input) → All P (front ++ x ∷ back) → P x
first_after P [] x back all = All-head P x back all
first_after P (y ∷ front) x back all = first_after P front x back (All-tail P y (front ++ x ∷ back) all)

-- where no frame for a worker stands after those that were read, the octets aren't frames
pub no_frame : (workers : ℕ) (octets rest : List ℕ) → HasFrames workers octets rest → (rest ≡ [] → ⊥) → ((input : Input) (after : List ℕ) → IsInput input → input.worker < workers → rest ≡ input_spelling input ++ after → ⊥) → AreFrames workers octets → ⊥
no_frame workers octets rest has some none (all, frames) =
    by (inputs_front has.inputs all rest has.valid frames.valid (sym has.spelled ∙ frames.spelled))
  where
    by : (more : List Input) × (all ≡ has.inputs ++ more) × (rest ≡ inputs_spelling more) → ⊥
    by ([], is, nothing) = some nothing
    by (input ∷ more, is, spelled) =
        none input (inputs_spelling more)
        (first_after IsInput has.inputs input more (subst (All IsInput) is frames.valid))
        (first_after (λ input. input.worker < workers) has.inputs input more (subst (All (λ input. input.worker < workers)) is frames.below)) spelled

-- nor where the frame there is for another worker
pub other_worker : (workers : ℕ) (octets rest after : List ℕ) (input : Input) → HasFrames workers octets rest → (rest ≡ [] → ⊥) → IsInput input → workers ≤ input.worker → rest ≡ input_spelling input ++ after → AreFrames workers octets → ⊥
other_worker workers octets rest after input has some valid beyond is =
    no_frame workers octets rest has some (λ another after' valid' below is'.
    let one = one_input input another after after' valid valid' (sym is ∙ is') in
    omega (arith, below, beyond, ap (λ i. i.worker) one.0))

-- what `is_empty` tells of the rest
pub some_left : (rest : List ℕ) (r : Bool) → r ≡ (length rest == 0) → r ≡ false → rest ≡ [] → ⊥
some_left rest r is test none = false≢true (sym test ∙ is ∙ ap (λ l. length l == 0) none)

pub none_left : (rest : List ℕ) (r : Bool) → r ≡ (length rest == 0) → r ≡ true → rest ≡ []
none_left rest r is test = nil_from_length rest ((Decides-eqb (length rest) 0).0 (sym is ∙ test))

-- ---- frames, gone over

-- some of the frames are done, and the rest spells the others
pub record Walks (inputs : List Input) (rest : List ℕ) : Type 0 where
  pub done : List Input
  pub left : List Input
  pub split : inputs ≡ done ++ left
  pub spelled : AreSpelled rest left

-- the frame that was read is the next of them
pub next_left : (left : List Input) (rest after : List ℕ) (input : Input) → AreSpelled rest left → IsInput input → rest ≡ input_spelling input ++ after → (more : List Input) × (left ≡ input ∷ more) × AreSpelled after more
next_left [] rest after input (here, valid) fits is = absurd (omega (arith, ap length here, ap length is, length-append (input_spelling input) after))
next_left (x ∷ more) rest after input (here, valid) fits is =
    let one = one_input x input (inputs_spelling more) after (All-head IsInput x more valid) fits (sym here ∙ is) in
    (more, ap (λ y. y ∷ more) one.0, (sym one.1, All-tail IsInput x more valid))

-- what stands at the front is passed, and read where it is the worker's
abbrev pub IsFrontFor : ℕ → List ℕ → List ℕ → Option Frame → Type 0
IsFrontFor worker rest after own =
    (input : Input) (back : List ℕ) → IsInput input → rest ≡ input_spelling input ++ back
    → (after ≡ back) × MatchOption own (input.worker ≡ worker → ⊥) (λ frame. (input_of frame ≡ input) × (input.worker ≡ worker))

front_own : (left : List Input) (rest after : List ℕ) (worker : ℕ) (frame : Frame) → AreSpelled rest left → length after < length rest → IsFrontFor worker rest after (Some frame) → IsInput (input_of frame) × (rest ≡ input_spelling (input_of frame) ++ after) × (frame.worker ≡ worker)
front_own [] rest after worker frame (here, valid) shorter front = absurd (omega (arith, shorter, ap length here))
front_own (x ∷ more) rest after worker frame (here, valid) shorter front =
    let fits = All-head IsInput x more valid in
    let (after_is, (same, own)) = front x (inputs_spelling more) fits here in
    (subst IsInput (sym same) fits, here ∙ (λ i. input_spelling (sym same i) ++ sym after_is i), ap (λ (o : Input). o.worker) same ∙ own)

pub own_front : (left : List Input) (rest after : List ℕ) (worker : ℕ) (own : Option Frame) (frame : Frame) → own ≡ Some frame → AreSpelled rest left → length after < length rest → IsFrontFor worker rest after own
    → IsInput (input_of frame) × (rest ≡ input_spelling (input_of frame) ++ after) × (frame.worker ≡ worker)
own_front left rest after worker own frame is spelled shorter front = front_own left rest after worker frame spelled shorter (subst (IsFrontFor worker rest after) is front)

pub other_front : (left : List Input) (rest after : List ℕ) (worker : ℕ) (own : Option Frame) → ((frame : Frame) → own ≡ Some frame → ⊥) → AreSpelled rest left → length after < length rest → IsFrontFor worker rest after own
    → (input : Input) × IsInput input × (rest ≡ input_spelling input ++ after) × (input.worker ≡ worker → ⊥)
other_front left rest after worker (Some frame) none spelled shorter front = absurd (none frame refl)
other_front [] rest after worker None none (here, valid) shorter front = absurd (omega (arith, shorter, ap length here))
other_front (x ∷ more) rest after worker None none (here, valid) shorter front =
    let fits = All-head IsInput x more valid in
    let (after_is, other) = front x (inputs_spelling more) fits here in
    (x, fits, here ∙ ap (λ l. input_spelling x ++ l) (sym after_is), other)

-- where none can be read, none are left
pub no_left : (left : List Input) (rest : List ℕ) → AreSpelled rest left → ((input : Input) (after : List ℕ) → IsInput input → rest ≡ input_spelling input ++ after → ⊥) → left ≡ []
no_left [] rest spelled none = refl
no_left (x ∷ more) rest (here, valid) none = absurd (none x (inputs_spelling more) (All-head IsInput x more valid) here)

module _ (inputs : List Input) (rest : List ℕ) (walk : Walks inputs rest) where
  pub split_next : (input : Input) (more : List Input) → walk.left ≡ input ∷ more → inputs ≡ (walk.done ++ input ∷ []) ++ more
  split_next input more next = walk.split ∙ ap (λ l. walk.done ++ l) next ∙ sym (append_assoc walk.done (input ∷ []) more)

  pub walk_all : ((input : Input) (after : List ℕ) → IsInput input → rest ≡ input_spelling input ++ after → ⊥) → walk.done ≡ inputs
  walk_all none = sym (walk.split ∙ ap (λ l. walk.done ++ l) (no_left walk.left rest walk.spelled none) ∙ append-nil walk.done)
