-- An answer over batches that were seen is one over all that were placed; and what a frame has placed.
use Rattle.std.proofs.Common.{◌≡◌, ℕ, ◌<◌, ◌≤◌, inr, true, false, List, take, Option, None, Some, refl, sym, ◌∙◌, ap, arith}
use Rattle.std.proofs.lemmas.Bool.{false≢true}
use Rattle.facts.proofs.Prefixes.{take_prefix}
use mathlib.Core.List.{IsPrefix}
use Rattle.denial_records.specs.declared.batch.Batch.{Batch}
use Rattle.intake.specs.Batch.{IsTaken}
use Rattle.intake.specs.declared.taken.Taken.{Taken}
use Rattle.cache_meaning.specs.Held.{Held, held_of}
use Rattle.cache_versions.specs.declared.state.State.{Ghosts}
use Rattle.cache_versions.specs.declared.seat.Seat.{Seat}
use Rattle.cache_versions.specs.declared.place.Placed.{Placed}
use Rattle.cache_versions.specs.Inserts.{Inserted}
use Rattle.cache_versions.proofs.Fronts.{prefix_get, prefix_length}
use Rattle.replay_meaning.specs.Frame.{Input}
use Rattle.replay_meaning.specs.OutFrame.{Output}
use Rattle.replay_meaning.specs.Step.{Step, Query, Insert, Tell}
use Rattle.replay_meaning.specs.Fits.{Rule, IsOutputOf, IsFor, is_placed, query_output}
use Rattle.replay_meaning.proofs.StepLemmas.{TellsNoCall, tells_no_call}
use Rattle.replay_meaning.specs.declared.frame.FrameKind.TheVariants.{Upstream}
use Rattle.worker_seats.specs.Answer.{IsAnswered}
use Rattle.worker_seats.specs.OneFrame.{HasPlacedAtMost}

-- ---- more batches

says_more : (rule : Rule) (seen journal : List Batch) (input : Input) (step : Step) (output : Output) → IsPrefix seen journal → IsOutputOf rule seen input step output → IsOutputOf rule journal input step output
says_more rule seen journal input (Query question) output begins (version, within, is) = (
  version,
  omega (arith, within, prefix_length seen journal begins),
  is ∙ ap (λ (l : List Batch). query_output input.worker version (rule (held_of l) question input.now)) (take_prefix seen journal version begins within),
)
says_more rule seen journal input (Insert taken) output begins (before, at, is) = (before, prefix_get seen journal before taken.batch begins at, is)
says_more rule seen journal input (Tell kind body) output begins is = is

pub answered_more : (rule : Rule) (seen journal : List Batch) (input : Input) (output : Output) → IsPrefix seen journal → IsAnswered rule seen input output → IsAnswered rule journal input output
answered_more rule seen journal input output begins answered = record {
  step = answered.step;
  does = answered.does;
  says = says_more rule seen journal input answered.step output begins answered.says;
}

-- ---- what an answer tells

pub query_places_none : (worker version : ℕ) (reply : Option (List ℕ)) → is_placed (query_output worker version reply).kind ≡ false
query_places_none worker version None = refl
query_places_none worker version (Some octets) = refl

pub query_version : (worker version : ℕ) (reply : Option (List ℕ)) → (query_output worker version reply).version ≡ version
query_version worker version None = refl
query_version worker version (Some octets) = refl

-- a placed batch makes a version, which isn't the first
placed_says : (rule : Rule) (seen : List Batch) (input : Input) (step : Step) (output : Output) → TellsNoCall step → IsOutputOf rule seen input step output → is_placed output.kind ≡ true → 1 ≤ output.version
placed_says rule seen input (Query question) output tells (version, within, is) placed =
    let none = query_places_none input.worker version (rule (held_of (take version seen)) question input.now) in
    absurd (false≢true (sym none ∙ sym (ap (λ (o : Output). is_placed o.kind) is) ∙ placed))
placed_says rule seen input (Insert taken) output tells (before, at, is) placed = let version = ap (λ (o : Output). o.version) is in omega (arith, version)
placed_says rule seen input (Tell kind body) output tells is placed = absurd (false≢true (sym tells.not_placed ∙ sym (ap (λ (o : Output). is_placed o.kind) is) ∙ placed))

pub placed_above : (rule : Rule) (seen : List Batch) (input : Input) (output : Output) → IsAnswered rule seen input output → is_placed output.kind ≡ true → 1 ≤ output.version
placed_above rule seen input output answered = placed_says rule seen input answered.step output (tells_no_call input answered.step answered.does) answered.says

pub answered_for : (rule : Rule) (workers : ℕ) (journal : List Batch) (input : Input) (output : Output) → input.worker < workers → IsAnswered rule journal input output → IsFor rule workers journal input output
answered_for rule workers journal input output below answered = record { below = below; step = answered.step; does = answered.does; says = answered.says }

-- ---- what a frame has placed

module _ {g : Ghosts Held Batch (Unit {0})} where
  pub inserted_at_most : (before after : Seat Held Batch (Unit {0}) g) (input : Input) (taken : Taken) (p : Placed Held Batch (Unit {0}) g)
      → input.kind ≡ Upstream → IsTaken input.message input.now taken → Inserted before after taken.batch p → HasPlacedAtMost before after input
  inserted_at_most before after input taken p kind takes inserted = inr (record {
    taken = taken;
    upstream = kind;
    takes = takes;
    former = inserted.former;
    begins = inserted.begins;
    seen = inserted.seen;
    places = inserted.places;
  })
