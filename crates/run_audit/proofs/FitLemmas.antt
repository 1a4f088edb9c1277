-- What fits is what breaks no clause.
use Rattle.std.proofs.Common.{◌≡◌, ℕ, ◌+◌, ◌<◌, ◌≤◌, true, false, List, [], ◌∷◌, length, Option, Some, None, slice_get, zero, suc, refl, sym, ◌∙◌, ap, arith}
use Rattle.std.specs.List.{All, AllZip}
use Rattle.std.proofs.lemmas.Bool.{false≢true}
use Rattle.std.proofs.lemmas.Option.{none-some}
use Rattle.std.proofs.lemmas.List.Elements.{All-nil, All-cons}
use Rattle.denial_records.specs.declared.batch.Batch.{Batch}
use Rattle.reply_core.specs.Answered.{reply_in}
use Rattle.replay_meaning.specs.Frame.{Input}
use Rattle.replay_meaning.specs.OutFrame.{Output}
use Rattle.replay_meaning.specs.Step.{Step, Query, Insert, Tell}
use Rattle.replay_meaning.specs.Fits.{IsOutputOf, IsFor, Fits, is_placed, query_output}
use Rattle.replay_meaning.proofs.StepLemmas.{TellsNoCall, tells_no_call}
use Rattle.run_audit.specs.Clauses.{MOST_WORKERS, IsOneWorkers, ArePaired, placed_in, AreNumbered, IsAnswer, AreAnswers, AreInOrder, DoFit, ClausesSayFit}
use Rattle.run_audit.proofs.RowLemmas.{as_many}

-- ---- zips

zip_weaker : {A B : Type 0} (R S : A → B → Type 0) → ((x : A) (y : B) → R x y → S x y) → (xs : List A) (ys : List B) → AllZip R xs ys → AllZip S xs ys
zip_weaker R S weaker [] [] each = tt
zip_weaker R S weaker [] (y ∷ ys) each = absurd each
zip_weaker R S weaker (x ∷ xs) [] each = absurd each
zip_weaker R S weaker (x ∷ xs) (y ∷ ys) each = (weaker x y each.0, zip_weaker R S weaker xs ys each.1)

zip_both : {A B : Type 0} (R S T : A → B → Type 0) → ((x : A) (y : B) → R x y → S x y → T x y) → (xs : List A) (ys : List B) → AllZip R xs ys → AllZip S xs ys → AllZip T xs ys
zip_both R S T both [] [] one other = tt
zip_both R S T both [] (y ∷ ys) one other = absurd one
zip_both R S T both (x ∷ xs) [] one other = absurd one
zip_both R S T both (x ∷ xs) (y ∷ ys) one other = (both x y one.0 other.0, zip_both R S T both xs ys one.1 other.1)

zip_right : {A B : Type 0} (R : A → B → Type 0) (P : B → Type 0) → ((x : A) (y : B) → R x y → P y) → (xs : List A) (ys : List B) → AllZip R xs ys → All P ys
zip_right R P right [] [] each = All-nil P
zip_right R P right [] (y ∷ ys) each = absurd each
zip_right R P right (x ∷ xs) [] each = absurd each
zip_right R P right (x ∷ xs) (y ∷ ys) each = All-cons P y ys (right x y each.0) (zip_right R P right xs ys each.1)

-- ---- one frame

query_worker : (worker version : ℕ) (reply : Option (List ℕ)) → (query_output worker version reply).worker ≡ worker
query_worker worker version None = refl
query_worker worker version (Some octets) = refl

pub query_not_placed : (worker version : ℕ) (reply : Option (List ℕ)) → is_placed (query_output worker version reply).kind ≡ false
query_not_placed worker version None = refl
query_not_placed worker version (Some octets) = refl

pub query_version : (worker version : ℕ) (reply : Option (List ℕ)) → (query_output worker version reply).version ≡ version
query_version worker version None = refl
query_version worker version (Some octets) = refl

same_worker : (placed : List Batch) (input : Input) (step : Step) (output : Output) → IsOutputOf reply_in placed input step output → output.worker ≡ input.worker
same_worker placed input (Query question) output (version, within, is) = ap (λ o. o.worker) is ∙ query_worker input.worker version _
same_worker placed input (Insert taken) output (before, at, is) = ap (λ o. o.worker) is
same_worker placed input (Tell kind body) output is = ap (λ o. o.worker) is

pub slice_within : {X : Type 0} (xs : List X) (i : ℕ) (x : X) → slice_get xs i ≡ Some x → i < length xs
slice_within [] i x is = absurd (none-some x is)
slice_within (y ∷ xs) zero x is = omega arith
slice_within (y ∷ xs) (suc i) x is = omega (arith, slice_within xs i x is)

-- what places a batch has one of the versions
version_within : (placed : List Batch) (input : Input) (step : Step) (output : Output) → TellsNoCall step → IsOutputOf reply_in placed input step output → is_placed output.kind ≡ true → (1 ≤ output.version) × (output.version ≤ length placed)
version_within placed input (Query question) output tells (version, within, is) put =
    absurd (false≢true (sym (query_not_placed input.worker version _) ∙ ap (λ o. is_placed o.kind) (sym is) ∙ put))
version_within placed input (Insert taken) output tells (before, at, is) put =
    let number : output.version ≡ before + 1 = ap (λ o. o.version) is in
    (omega (arith, number), omega (arith, number, slice_within placed before taken.batch at))
version_within placed input (Tell kind body) output tells is put =
    absurd (false≢true (sym tells.not_placed ∙ ap (λ o. is_placed o.kind) (sym is) ∙ put))

-- ---- the law

module _ (inputs : List Input) (outputs : List Output) where
  paired_by : (placed : List Batch) → Fits reply_in inputs MOST_WORKERS placed outputs → ArePaired MOST_WORKERS inputs outputs
  paired_by placed fits =
      zip_weaker (IsFor reply_in MOST_WORKERS placed) (IsOneWorkers MOST_WORKERS)
      (λ input output for'. record { below = for'.below; same = same_worker placed input for'.step output for'.says }) inputs outputs fits.each

  within_by : (placed : List Batch) → Fits reply_in inputs MOST_WORKERS placed outputs → All (λ output. is_placed output.kind ≡ true → (1 ≤ output.version) × (output.version ≤ length placed)) outputs
  within_by placed fits =
      zip_right (IsFor reply_in MOST_WORKERS placed) (λ output. is_placed output.kind ≡ true → (1 ≤ output.version) × (output.version ≤ length placed))
      (λ input output for' put. version_within placed input for'.step output (tells_no_call input for'.step for'.does) for'.says put) inputs outputs fits.each

  number_by : (placed : List Batch) → Fits reply_in inputs MOST_WORKERS placed outputs → placed_in outputs ≡ length placed
  number_by placed fits = as_many (λ output. output.version) (λ output. is_placed output.kind) (length placed) outputs (within_by placed fits) fits.versions

  numbered_by : (placed : List Batch) → Fits reply_in inputs MOST_WORKERS placed outputs → AreNumbered outputs
  numbered_by placed fits =
      let number = number_by placed fits in
      record {
        within = λ k d lt put. let bounds = within_by placed fits k d lt put in (bounds.0, omega (arith, bounds.1, number));
        once = λ version some le. fits.versions version some (omega (arith, le, number));
      }

  answers_by : (placed : List Batch) → Fits reply_in inputs MOST_WORKERS placed outputs → AreAnswers inputs outputs
  answers_by placed fits = record {
    placed = placed;
    number = sym (number_by placed fits);
    each = zip_weaker (IsFor reply_in MOST_WORKERS placed) (IsAnswer placed) (λ input output for'. record { step = for'.step; does = for'.does; says = for'.says }) inputs outputs fits.each;
  }

  pub fits_of : ArePaired MOST_WORKERS inputs outputs → AreNumbered outputs → (answers : AreAnswers inputs outputs) → AreInOrder outputs → Fits reply_in inputs MOST_WORKERS answers.placed outputs
  fits_of paired numbered answers order = record {
    each = zip_both (IsOneWorkers MOST_WORKERS) (IsAnswer answers.placed) (IsFor reply_in MOST_WORKERS answers.placed)
        (λ input output one answer. record { below = one.below; step = answer.step; does = answer.does; says = answer.says }) inputs outputs paired answers.each;
    versions = λ version some le. numbered.once version some (omega (arith, le, answers.number));
    order = order;
  }

pub clauses_say_fit : ClausesSayFit
clauses_say_fit inputs outputs = (
  λ fit. (paired_by inputs outputs fit.0 fit.1, numbered_by inputs outputs fit.0 fit.1, answers_by inputs outputs fit.0 fit.1, fit.1.order),
  λ all. (all.2.placed, fits_of inputs outputs all.0 all.1 all.2 all.3),
)
