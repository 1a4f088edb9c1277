-- What is found, by the pairs in their order and in that of versions.
use Rattle.std.proofs.Common.{◌≡◌, ℕ, ◌*◌, ◌+◌, ◌^◌, ◌<◌, ◌≤◌, Bool, true, false, IsTrue, ◌↔◌, List, [], ◌∷◌, length, get_or, slice_get, map, Option, Some, None, refl, sym, ◌∙◌, ap, subst, arith, length-append}
use Rattle.std.specs.Prelude.{IfSome}
use Rattle.std.specs.List.{All, AllZip, Contains, count_by}
use Rattle.std.specs.List.Sorted.{IsPermutation}
use Rattle.std.specs.Option.{option_map}
use Rattle.std.proofs.lemmas.Bool.{false≢true}
use Rattle.std.proofs.lemmas.List.{length-map}
use Rattle.std.proofs.lemmas.List.Elements.{All-weaker}
use Rattle.std.proofs.lemmas.List.Sorted.{All-permutation, Contains-permutation, IsPermutation-sym}
use Rattle.std.proofs.lemmas.Option.{none-some, same_Some, slice_get-map, slice_get_within, slice_get-get_or, get_or_from_slice_get}
use Rattle.dnswire.specs.declared.question.Question.{Question}
use Rattle.denial_records.specs.Proof.{Proof}
use Rattle.denial_records.specs.declared.batch.Batch.{Batch}
use Rattle.zone_meaning.specs.Zone.{Zone}
use Rattle.reply_core.specs.Answered.{reply_in}
use Rattle.replay_meaning.specs.Fits.{Fits}
use Rattle.replay_meaning.specs.Frame.{Input, input_spelling, inputs_spelling}
use Rattle.replay_meaning.specs.OutFrame.{Output}
use Rattle.run_audit.specs.Answering.{IsFaulty}
use Rattle.run_audit.specs.Clauses.{MOST_WORKERS, IsOneWorkers, ArePaired, AreNumbered, IsAnswer, AreAnswers, AreInOrder, IsFirstBroken, placed_in}
use Rattle.run_audit.specs.Findings.{IsReplyTo, IsReplyAt, AreFaultless, IsYes, IsFoundIn}
use Rattle.run_audit.specs.First.{IsClearPair, IsFaultAt, IsFirstFault, HasFirst, finding_at, finding_of}
use Rattle.run_audit.specs.Pairs.{input_in, output_in, inputs_in, outputs_in, IsMatched, AreMatched, AreInTurn, AreAtPlaces}
use Rattle.run_audit.specs.Replies.{is_reply}
use Rattle.run_audit.specs.Spelled.{AreInputs}
use Rattle.run_audit.specs.declared.clause.Clause.TheVariants.{Versions, Outcomes, Order}
use Rattle.run_audit.specs.declared.fault.Fault.{Fault}
use Rattle.run_audit.specs.declared.fault.Fault.TheVariants as faults
use Rattle.run_audit.specs.declared.fault_at.FaultAt.{FaultAt}
use Rattle.run_audit.specs.declared.finding.Finding.{Finding}
use Rattle.run_audit.specs.declared.finding.Finding.TheVariants.{Unfit}
use Rattle.run_audit.specs.declared.pair.FramePair.{FramePair}
use Rattle.run_audit.proofs.FirstLemmas.{first_moved}
use Rattle.run_audit.proofs.FitLemmas.{fits_of}
use Rattle.run_audit.proofs.PairLemmas.{zip_from, zip_to, put_count, put_moved, numbered_moved, numbered_back, turns_numbered}

-- ---- a frame at its place

pair_at : (pairs : List FramePair) (at : ℕ) (input : Input) → slice_get (inputs_in pairs) at ≡ Some input → (pair : FramePair) × (slice_get pairs at ≡ Some pair)
pair_at pairs at input is = by (slice_get pairs at) refl
  where
    by : (found : Option FramePair) → slice_get pairs at ≡ found → (pair : FramePair) × (slice_get pairs at ≡ Some pair)
    by None none = absurd (none-some input (sym (slice_get-map input_in pairs at ∙ ap (option_map input_in) none) ∙ is))
    by (Some pair) there = (pair, there)

module _ (pairs : List FramePair) (places : AreAtPlaces pairs) where
  at_own : (pair : FramePair) (at : ℕ) → slice_get pairs at ≡ Some pair → pair.at ≡ at
  at_own pair at there =
      ap (λ p. p.at) (sym (get_or_from_slice_get pairs at pair pair there)) ∙ places at pair (slice_get_within pairs at pair there)

  contained : (pair : FramePair) → Contains pairs pair → (pair.at < length pairs) × (slice_get pairs pair.at ≡ Some pair)
  contained pair (k, within, is) =
      let own : pair.at ≡ k = ap (λ p. p.at) (sym is) ∙ places k pair within in
      (omega (arith, own, within), ap (slice_get pairs) own ∙ slice_get-get_or pairs k pair within ∙ ap Some is)

  reply_at : (placed : List Batch) (pair : FramePair) (at : ℕ) (question : Question) (proof : Proof) → Contains pairs pair → pair.at ≡ at → IsReplyTo placed (input_in pair) (output_in pair) question proof → IsReplyAt placed (inputs_in pairs) (outputs_in pairs) at question proof
  reply_at placed pair at question proof there own reply =
      let is : slice_get pairs at ≡ Some pair = ap (slice_get pairs) (sym own) ∙ (contained pair there).1 in
      record {
        input = input_in pair;
        input_is = slice_get-map input_in pairs at ∙ ap (option_map input_in) is;
        output = output_in pair;
        output_is = slice_get-map output_in pairs at ∙ ap (option_map output_in) is;
        reply = reply;
      }

  clear_upto : (zone : Zone) (placed : List Batch) (count : ℕ) → All (λ pair. pair.at < count → IsClearPair zone placed pair) pairs → AreFaultless zone placed (inputs_in pairs) (outputs_in pairs) count
  clear_upto zone placed count clear at question proof low reply =
      let found = pair_at pairs at reply.input reply.input_is in
      let pair : FramePair = found.0 in
      let input_is : reply.input ≡ input_in pair =
      same_Some reply.input (input_in pair) (sym reply.input_is ∙ slice_get-map input_in pairs at ∙ ap (option_map input_in) found.1) in
      let output_is : reply.output ≡ output_in pair =
      same_Some reply.output (output_in pair) (sym reply.output_is ∙ slice_get-map output_in pairs at ∙ ap (option_map output_in) found.1) in
      let clear_at : pair.at < count → IsClearPair zone placed pair =
      subst (λ p. p.at < count → IsClearPair zone placed p) (get_or_from_slice_get pairs at pair pair found.1) (clear at pair (slice_get_within pairs at pair found.1)) in
      clear_at (omega (arith, at_own pair at found.1, low)) question proof
      (subst (λ i. IsReplyTo placed i (output_in pair) question proof) input_is (subst (λ o. IsReplyTo placed reply.input o question proof) output_is reply.reply))

-- ---- by the pairs in the order of versions

-- another order of the pairs has the answers of this one
answers_in : (pairs moved : List FramePair) → IsPermutation pairs moved → (placed : List Batch) → length placed ≡ placed_in (outputs_in pairs) → AllZip (IsAnswer placed) (inputs_in pairs) (outputs_in pairs)
    → (length placed ≡ placed_in (outputs_in moved)) × AllZip (IsAnswer placed) (inputs_in moved) (outputs_in moved)
answers_in pairs moved same placed number each = (
  number ∙ put_count pairs ∙ sym (put_moved pairs moved same) ∙ sym (put_count moved),
  zip_from (IsAnswer placed) moved (All-permutation (λ p. IsAnswer placed (input_in p) (output_in p)) pairs moved same (zip_to (IsAnswer placed) pairs each)),
)

answers_moved : (pairs moved : List FramePair) → IsPermutation pairs moved → AreAnswers (inputs_in pairs) (outputs_in pairs) → AreAnswers (inputs_in moved) (outputs_in moved)
answers_moved pairs moved same answers =
    let all = answers_in pairs moved same answers.placed answers.number answers.each in
    record { placed = answers.placed; number = all.0; each = all.1 }

-- the first fault, told by its frame
module _ (zone : Zone) (pairs : List FramePair) (places : AreAtPlaces pairs) (placed : List Batch) (fits : Fits reply_in (inputs_in pairs) MOST_WORKERS placed (outputs_in pairs)) where
  faulty_found : (first : FaultAt) (fault : Fault) → first.fault ≡ fault → IsFaultAt zone placed pairs first → All (λ pair. pair.at < first.at → IsClearPair zone placed pair) pairs → IsFoundIn zone (inputs_in pairs) (outputs_in pairs) (finding_at first.at fault)
  faulty_found first (faults.Record used) is has clear =
      let faulty = subst (IsFaulty zone placed (input_in has.pair) (output_in has.pair)) is has.faulty in
      record {
        placed = placed;
        fits = fits;
        faultless = clear_upto pairs places zone placed first.at clear;
        question = faulty.question;
        proof = faulty.proof;
        reply = reply_at pairs places placed has.pair first.at faulty.question faulty.proof has.there has.at_is faulty.reply;
        first = faulty.is;
      }
  faulty_found first faults.Clash is has clear =
      let faulty = subst (IsFaulty zone placed (input_in has.pair) (output_in has.pair)) is has.faulty in
      record {
        placed = placed;
        fits = fits;
        faultless = clear_upto pairs places zone placed first.at clear;
        question = faulty.question;
        proof = faulty.proof;
        reply = reply_at pairs places placed has.pair first.at faulty.question faulty.proof has.there has.at_is faulty.reply;
        clashes = faulty.is;
      }

  first_found : (replies : ℕ) (first : Option FaultAt) → replies ≡ count_by is_reply (outputs_in pairs) → IsFirstFault zone placed pairs first → IsFoundIn zone (inputs_in pairs) (outputs_in pairs) (finding_of replies first)
  first_found replies None number clear = record {
    placed = placed;
    fits = fits;
    faultless = clear_upto pairs places zone placed (length (outputs_in pairs)) (All-weaker (IsClearPair zone placed) (λ pair. pair.at < length (outputs_in pairs) → IsClearPair zone placed pair) (λ pair clear _. clear) pairs clear);
    number = number;
  }
  first_found replies (Some first) number (has, clear) = faulty_found first first.fault refl has clear

pub matched_moved : (pairs moved : List FramePair) → IsPermutation pairs moved → AreMatched pairs → AreMatched moved
matched_moved pairs moved same = All-permutation IsMatched pairs moved same

module _ (zone : Zone) (pairs moved : List FramePair) (matched : AreMatched pairs) (places : AreAtPlaces pairs) (same : IsPermutation pairs moved) where
  back : IsPermutation moved pairs
  back = IsPermutation-sym pairs moved same

  paired : ArePaired MOST_WORKERS (inputs_in pairs) (outputs_in pairs)
  paired = zip_from (IsOneWorkers MOST_WORKERS) pairs matched

  pub versions_broken : (AreNumbered (outputs_in moved) → ⊥) → IsFirstBroken (inputs_in pairs) (outputs_in pairs) Versions
  versions_broken not = (paired, λ numbered. not (numbered_moved pairs moved same numbered))

  module _ (turns : AreInTurn moved) where
    numbered : AreNumbered (outputs_in pairs)
    numbered = numbered_back pairs moved same (turns_numbered moved turns)

    pub outcomes_broken : (AreAnswers (inputs_in moved) (outputs_in moved) → ⊥) → IsFirstBroken (inputs_in pairs) (outputs_in pairs) Outcomes
    outcomes_broken not = (paired, numbered, λ answers. not (answers_moved pairs moved same answers))

    module _ (first : Option FaultAt) (has : HasFirst zone moved first) where
      order_broken : (AreInOrder (outputs_in pairs) → ⊥) → IsFirstBroken (inputs_in pairs) (outputs_in pairs) Order
      order_broken not = (paired, numbered, answers_moved moved pairs back has.answers, not)

      found : AreInOrder (outputs_in pairs) → (replies : ℕ) → replies ≡ count_by is_reply (outputs_in pairs) → IsFoundIn zone (inputs_in pairs) (outputs_in pairs) (finding_of replies first)
      found order replies number =
          let all = answers_in moved pairs back has.answers.placed has.answers.number has.answers.each in
          let answers : AreAnswers (inputs_in pairs) (outputs_in pairs) = record { placed = has.answers.placed; number = all.0; each = all.1 } in
          first_found zone pairs places has.answers.placed (fits_of (inputs_in pairs) (outputs_in pairs) paired numbered answers order) replies first number
          (first_moved zone has.answers.placed moved pairs back first has.first_is)

      pub found_as : (finding : Finding) (replies : ℕ) → finding ≡ finding_of replies first → AreInOrder (outputs_in pairs) → replies ≡ count_by is_reply (outputs_in pairs) → IsFoundIn zone (inputs_in pairs) (outputs_in pairs) finding
      found_as finding replies is order number = subst (IsFoundIn zone (inputs_in pairs) (outputs_in pairs)) (sym is) (found order replies number)

      pub order_as : (finding : Finding) → finding ≡ Unfit Order → (AreInOrder (outputs_in pairs) → ⊥) → IsFoundIn zone (inputs_in pairs) (outputs_in pairs) finding
      order_as finding is not = subst (IsFoundIn zone (inputs_in pairs) (outputs_in pairs)) (sym is) (order_broken not)

  -- the fault's frame is one of them
  pub first_few : length pairs < 2 ^ 32 → (first : Option FaultAt) → HasFirst zone moved first → IfSome first (λ first. first.at < 2 ^ 32)
  first_few few first has = by first has.first_is
    where
      by : (first : Option FaultAt) → IsFirstFault zone has.answers.placed moved first → IfSome first (λ first. first.at < 2 ^ 32)
      by None clear = tt
      by (Some first) (is, clear) =
          let within = (contained pairs places is.pair (Contains-permutation moved pairs is.pair back is.there)).0 in
          omega (arith, within, is.at_is, few)

-- ---- how many frames there are

-- a frame has eight octets at least
spelled_long : (inputs : List Input) → 8 * length inputs ≤ length (inputs_spelling inputs)
spelled_long [] = omega arith
spelled_long (input ∷ inputs) = omega (arith, length-append (input_spelling input) (inputs_spelling inputs), spelled_long inputs)

pub few_inputs : (octets : List ℕ) (inputs : List Input) → AreInputs octets inputs → 8 * length inputs ≤ length octets
few_inputs octets inputs are = omega (arith, ap length are.spelled, spelled_long inputs)
