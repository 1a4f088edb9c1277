-- The work of all workers, put together.
use Rattle.std.proofs.Common.{◌≡◌, ℕ, ◌<◌, ◌==◌, List, [], length, map, get_or, sym, ◌∙◌, ap, subst, arith}
use Rattle.std.specs.Prelude.{Result, Ok, Err, IfOk}
use Rattle.std.specs.List.{All}
use Rattle.std.proofs.lemmas.List.{length-map, get_or-map}
use Rattle.std.proofs.lemmas.List.Elements.{All-filter}
use Rattle.std.proofs.lemmas.Slice.Zip.{AllZip-long}
use Rattle.facts.proofs.Lists.{some_of}
use Rattle.denial_records.specs.declared.batch.Batch.{Batch}
use Rattle.cache_meaning.specs.Held.{Held}
use Rattle.cache_versions.specs.declared.state.State.{Ghosts}
use Rattle.cache_versions.specs.declared.seat.Seat.{Seat}
use Rattle.cache_versions.specs.Rows.{AreNumbered}
use Rattle.cache_versions.specs.Seats.{number_by}
use Rattle.replay_meaning.specs.Frame.{Input}
use Rattle.replay_meaning.specs.OutFrame.{Output, IsOutput}
use Rattle.replay_meaning.specs.Fits.{Rule}
use Rattle.replay_meaning.proofs.FrameLemmas.{outputs_have_one}
use Rattle.worker_seats.specs.Merge.{AreOutputsOf, AreMerged}
use Rattle.worker_seats.specs.Work.{IsWork}
use Rattle.worker_seats.specs.Workers.{HasSameWorker, HasWorked, HaveWorked, inputs_of, outputs_of}

-- ---- lists

-- what follows from what two clauses say
pub if_ok_both : {T E : Type 0} (r : Result T E) (P Q R : T → Type 0) → IfOk r P → IfOk r Q → ((x : T) → P x → Q x → R x) → IfOk r R
if_ok_both (Ok x) P Q R p q f = f x p q
if_ok_both (Err e) P Q R p q f = tt

pub all_map : {X Y : Type 0} (P : Y → Type 0) (f : X → Y) (xs : List X) → ((k : ℕ) (e : X) → k < length xs → P (f (get_or xs k e))) → All P (map f xs)
all_map P f xs each = λ k d lt.
    let lt' : k < length xs = omega (arith, lt, length-map xs f) in
    let e = some_of xs k lt' in
    subst P (sym (get_or-map f xs k e d lt')) (each k e lt')

-- the job at a place
pub job_at : {J A : Type 0} (worker_of : J → ℕ) (seat_of : J → A) (jobs : List J) (seats : List A) (k : ℕ) (d : J) (e : A) → map seat_of jobs ≡ seats
    → ((place : ℕ) (d : J) → place < length jobs → worker_of (get_or jobs place d) ≡ place) → k < length jobs → (worker_of (get_or jobs k d) ≡ k) × (seat_of (get_or jobs k d) ≡ get_or seats k e)
job_at worker_of seat_of jobs seats k d e are placed lt = (placed k d lt, sym (get_or-map seat_of jobs k d e lt) ∙ ap (λ l. get_or l k e) are)

pub jobs_length : {J A : Type 0} (seat_of : J → A) (jobs : List J) (seats : List A) → map seat_of jobs ≡ seats → length jobs ≡ length seats
jobs_length seat_of jobs seats are = sym (length-map jobs seat_of) ∙ ap length are

-- what holds of each seat holds of each job's
pub all_jobs : {J A : Type 0} (P : A → Type 0) (seat_of : J → A) (jobs : List J) (seats : List A) → map seat_of jobs ≡ seats → All P seats → (k : ℕ) (d : J) → k < length jobs → P (seat_of (get_or jobs k d))
all_jobs P seat_of jobs seats are all k d lt =
    let same : get_or seats k (seat_of d) ≡ seat_of (get_or jobs k d) = sym (ap (λ l. get_or l k (seat_of d)) are) ∙ get_or-map seat_of jobs k d (seat_of d) lt in
    subst P same (all k (seat_of d) (omega (arith, lt, jobs_length seat_of jobs seats are)))

-- what holds of each result, if it is one, holds of what they are
pub shift_at : {T E : Type 0} (P : T → Type 0) (results : List (Result T E)) (shifts : List T) (k : ℕ) (x : T) → results ≡ map (λ s. Ok s) shifts → k < length shifts → IfOk (get_or results k (Ok x)) P → P (get_or shifts k x)
shift_at P results shifts k x are lt all = subst (λ r. IfOk r P) (ap (λ l. get_or l k (Ok x)) are ∙ get_or-map (λ s. Ok s) shifts k x (Ok x) lt) all

pub results_length : {T E : Type 0} (results : List (Result T E)) (shifts : List T) → results ≡ map (λ s. Ok s) shifts → length shifts ≡ length results
results_length results shifts are = sym (length-map shifts (λ s. Ok s)) ∙ sym (ap length are)

-- ---- workers

module _ {g : Ghosts Held Batch (Unit {0})} {X : Type 0} (rule : Rule) (seat_of : X → Seat Held Batch (Unit {0}) g) (octets_of : X → List ℕ) where
  abbrev pub EachWorked : List (Seat Held Batch (Unit {0}) g) → List X → List Input → Type 0
  EachWorked before parts inputs =
      (worker : ℕ) (d : Seat Held Batch (Unit {0}) g) (e : X) → worker < length parts → IsWork rule worker (get_or before worker d) (seat_of (get_or parts worker e)) inputs (octets_of (get_or parts worker e))

  pub outputs_at : (worker : ℕ) (before : Seat Held Batch (Unit {0}) g) (part : X) (inputs : List Input) → IsWork rule worker before (seat_of part) inputs (octets_of part) → AreOutputsOf worker inputs (octets_of part)
  outputs_at worker before part inputs work = record {
    outputs = work.outputs;
    written = work.written;
    valid = work.valid;
    own = work.own;
    many = AllZip-long HasSameWorker (inputs_of worker inputs) work.outputs work.worked.same;
  }

  pub worked_all : (before : List (Seat Held Batch (Unit {0}) g)) (parts : List X) (inputs : List Input) (octets : List ℕ) → length parts ≡ length before → EachWorked before parts inputs → AreMerged (map octets_of parts) inputs octets → HaveWorked rule before (map seat_of parts) inputs octets
  worked_all before parts inputs octets all each merged = record {
    outputs = merged.outputs;
    written = merged.written;
    valid = merged.valid;
    same = merged.same;
    each = λ worker d lt.
        let lt' : worker < length parts = omega (arith, lt, all) in
        let e = some_of parts worker lt' in
        let work = each worker d e lt' in
        let mine : work.outputs ≡ outputs_of worker merged.outputs =
        outputs_have_one.whole work.outputs (outputs_of worker merged.outputs) work.valid (All-filter (λ (o : Output). o.worker == worker) IsOutput merged.outputs merged.valid) (sym work.written ∙ sym (get_or-map octets_of parts worker e [] lt') ∙ merged.each worker [] (omega (arith, lt', length-map parts octets_of))) in
        subst (λ s. HasWorked rule (get_or before worker d) s (inputs_of worker inputs) (outputs_of worker merged.outputs)) (sym (get_or-map seat_of parts worker e d lt'))
        (subst (λ l. HasWorked rule (get_or before worker d) (seat_of (get_or parts worker e)) (inputs_of worker inputs) l) mine work.worked);
  }

  pub numbers_all : (before : List (Seat Held Batch (Unit {0}) g)) (parts : List X) → length parts ≡ length before → AreNumbered before
      → ((worker : ℕ) (d : Seat Held Batch (Unit {0}) g) (e : X) → worker < length parts → number_by (seat_of (get_or parts worker e)) ≡ number_by (get_or before worker d)) → AreNumbered (map seat_of parts)
  numbers_all before parts all numbered same = λ worker d lt.
      let lt' : worker < length parts = omega (arith, lt, length-map parts seat_of) in
      let e = some_of parts worker lt' in
      ap number_by (get_or-map seat_of parts worker e d lt') ∙ same worker d e lt' ∙ numbered worker d (omega (arith, lt', all))
