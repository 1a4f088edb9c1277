-- The cuts that a worker notes, frame by frame.
use Rattle.std.proofs.Common.{◌≡◌, ℕ, ◌+◌, ◌*◌, ◌-◌, ◌<◌, ◌≤◌, inl, inr, List, [], ◌∷◌, ◌++◌, length, min, take, get_or, sym, ◌∙◌, ap, subst, arith, length-append}
use Rattle.std.specs.List.{All}
use Rattle.std.proofs.lemmas.Grind.{flat_map-append}
use Rattle.std.proofs.lemmas.List.{take-append-le, take_at}
use Rattle.std.proofs.Math.Seq.{take-length}
use Rattle.cache_versions.proofs.Rows.{each_snoc}
use Rattle.replay_meaning.specs.Frame.{Input, input_spelling, inputs_spelling}
use Rattle.replay_meaning.specs.OutFrame.{Output, IsOutput, outputs_spelling}
use Rattle.replay_meaning.proofs.FrameLemmas.{outputs_have_one}
use Rattle.worker_seats.specs.Cuts.{AreCuts}
use Rattle.worker_seats.specs.Work.{HasPassed}
use Rattle.worker_seats.specs.Workers.{inputs_of}
use Rattle.worker_seats.specs.declared.cut.Cut.{Cut}
use Rattle.worker_seats.specs.declared.cut.TheConstants.{RANGE}

-- the cut behind these frames, where the outputs of the worker's own among them are the first of these
pub record IsNoted (worker : ℕ) (front : List Input) (outputs : List Output) (cut : Cut) : Type 0 where
  pub few : length (inputs_of worker front) ≤ length outputs
  pub from : cut.from ≡ length (inputs_spelling front)
  pub place : cut.place ≡ length (outputs_spelling (take (length (inputs_of worker front)) outputs))

-- the cuts of the frames done: behind each full range that another frame came after
pub record AreNoted (worker : ℕ) (done : List Input) (outputs : List Output) (cuts : List Cut) (passed : ℕ) : Type 0 where
  pub many : length done ≡ RANGE * length cuts + passed
  pub upto : passed ≤ RANGE
  pub some : min 1 (length cuts) ≤ passed
  pub each : (k : ℕ) (d : Cut) → k < length cuts → IsNoted worker (take (RANGE * (k + 1)) done) outputs (get_or cuts k d)

pub noted_none : (worker : ℕ) (outputs : List Output) → AreNoted worker [] outputs [] 0
noted_none worker outputs = record { many = omega arith; upto = omega arith; some = omega arith; each = λ k d lt. absurd (omega (arith, lt)) }

-- what stands where a worker has done its own of the frames before
pub noted_here : (worker : ℕ) (done left inputs : List Input) (outputs : List Output) (whole rest octets : List ℕ) (here : Cut) → inputs ≡ done ++ left → whole ≡ inputs_spelling inputs → rest ≡ inputs_spelling left
    → octets ≡ outputs_spelling outputs → length (inputs_of worker done) ≡ length outputs → here.from ≡ length whole - length rest → here.place ≡ length octets → IsNoted worker done outputs here
noted_here worker done left inputs outputs whole rest octets here split spelled behind written many from place =
    let parts : whole ≡ inputs_spelling done ++ inputs_spelling left = spelled ∙ ap inputs_spelling split ∙ flat_map-append input_spelling done left in
    record {
      few = omega (arith, many);
      from = omega (arith, from, ap length parts, ap length behind, length-append (inputs_spelling done) (inputs_spelling left));
      place = place ∙ ap length written ∙ ap (λ l. length (outputs_spelling l)) (sym (ap (λ n. take n outputs) many ∙ take-length outputs));
    }

module _ (worker : ℕ) (done : List Input) (outputs : List Output) (cuts : List Cut) (passed : ℕ) (noted : AreNoted worker done outputs cuts passed) where
  -- the cuts stay where the worker has done one more
  pub noted_output : (output : Output) → AreNoted worker done (outputs ++ output ∷ []) cuts passed
  noted_output output = record {
    many = noted.many;
    upto = noted.upto;
    some = noted.some;
    each = λ k d lt.
        let one = noted.each k d lt in
        record {
          few = omega (arith, one.few, length-append outputs (output ∷ []));
          from = one.from;
          place = one.place ∙ ap (λ l. length (outputs_spelling l)) (sym (take-append-le _ outputs (output ∷ []) one.few));
        };
  }

  module _ (input : Input) where
    still : (k : ℕ) (d : Cut) → k < length cuts → IsNoted worker (take (RANGE * (k + 1)) (done ++ input ∷ [])) outputs (get_or cuts k d)
    still k d lt = subst (λ l. IsNoted worker l outputs (get_or cuts k d)) (sym (take-append-le (RANGE * (k + 1)) done (input ∷ []) (omega (arith, lt, noted.many)))) (noted.each k d lt)

    -- one more frame is passed
    pub noted_input : (here : Cut) (cuts' : List Cut) (passed' : ℕ) → IsNoted worker done outputs here → HasPassed passed here cuts cuts' passed' → AreNoted worker (done ++ input ∷ []) outputs cuts' passed'
    noted_input here cuts' passed' last (inl (below, same, now)) = subst (λ l. AreNoted worker (done ++ input ∷ []) outputs l passed') (sym same) (record {
      many = omega (arith, noted.many, now, length-append done (input ∷ []));
      upto = omega (arith, below, now);
      some = omega (arith, now);
      each = still;
    })
    noted_input here cuts' passed' last (inr (full, pushed, now)) =
        let long : RANGE * (length cuts + 1) ≡ length done = omega (arith, noted.many, noted.upto, full) in
        subst (λ l. AreNoted worker (done ++ input ∷ []) outputs l passed') (sym pushed) (record {
          many = omega (arith, long, now, length-append done (input ∷ []), length-append cuts (here ∷ []));
          upto = omega (arith, now);
          some = omega (arith, now);
          each = each_snoc (λ (k : ℕ) (cut : Cut). IsNoted worker (take (RANGE * (k + 1)) (done ++ input ∷ [])) outputs cut) cuts here still
              (subst (λ l. IsNoted worker l outputs here) (sym (take_at done (input ∷ []) (RANGE * (length cuts + 1)) (sym long))) last);
        })

  -- in the end they are all
  pub noted_all : (octets : List ℕ) → All IsOutput outputs → octets ≡ outputs_spelling outputs → AreCuts worker done octets cuts
  noted_all octets valid written = record {
    many = omega (arith, noted.many, noted.upto, noted.some);
    each = λ k d lt.
        let one = noted.each k d lt in
        record {
          from = one.from;
          place = λ others valid' written'.
              subst (λ l. (get_or cuts k d).place ≡ length (outputs_spelling (take (length (inputs_of worker (take (RANGE * (k + 1)) done))) l)))
              (outputs_have_one.whole outputs others valid valid' (sym written ∙ written')) one.place;
        };
  }
