-- The pairs in the order of versions, and the earliest frame whose reply has a fault.
use Rattle.std.proofs.Common.{◌≡◌, ℕ, ◌+◌, ◌<◌, ◌≤◌, Bool, true, false, List, [], ◌∷◌, ◌++◌, length, take, get_or, Option, Some, None, refl, sym, ◌∙◌, ap, subst, arith, append_assoc}
use Rattle.std.specs.Prelude.{nat_lt, if◌then◌else◌}
use Rattle.std.specs.List.{All, AllZip, Contains}
use Rattle.std.specs.List.Sorted.{IsNonDecreasingBy, IsPermutation}
use Rattle.std.proofs.lemmas.Bool.{false≢true}
use Rattle.std.proofs.lemmas.Bool.Decides.{Decides-ltb}
use Rattle.std.proofs.lemmas.List.{append-nil, get_or_default, take_all, take_more}
use Rattle.std.proofs.lemmas.List.Elements.{All-nil, All-push, All-weaker, Contains-append_left, Contains-push}
use Rattle.std.proofs.lemmas.List.Sorted.{All-permutation, Contains-permutation}
use Rattle.denial_records.specs.declared.batch.Batch.{Batch}
use Rattle.cache_meaning.specs.Held.{Held, nothing_held}
use Rattle.held_laws.specs.KeyOrder.{kept_after, kept_of}
use Rattle.zone_meaning.specs.Zone.{Zone}
use Rattle.run_audit.specs.Answering.{IsRight, IsWrong, IsClear, IsFaulty, IsFaultIn, IsChecked}
use Rattle.run_audit.specs.Clauses.{AreAnswers}
use Rattle.run_audit.specs.First.{earlier, IsClearPair, IsFaultAt, IsFirstFault, HasFirst}
use Rattle.run_audit.specs.Pairs.{input_in, output_in, inputs_in, outputs_in, rank_of, AreInTurn}
use Rattle.run_audit.specs.declared.checked.Checked.{Checked}
use Rattle.run_audit.specs.declared.checked.Checked.TheVariants.{Wrong, Right, Faulty, Placed}
use Rattle.run_audit.specs.declared.fault.Fault.{Fault}
use Rattle.run_audit.specs.declared.fault_at.FaultAt.{FaultAt}
use Rattle.run_audit.specs.declared.pair.FramePair.{FramePair}
use Rattle.run_audit.proofs.AnswerLemmas.{HasAnswered, answered_none, answered_more, answered_wrong, answered_all, kept_with}
use Rattle.run_audit.proofs.ClearLemmas.{fault_after, placed_clear, right_version}

-- ---- one pair more

-- with what is found of the frame
abbrev pub first_with : Option FaultAt → ℕ → Option Fault → Option FaultAt
first_with first at None = first
first_with first at (Some fault) = Some (earlier first (record { at = at; fault = fault }))

module _ (zone : Zone) (placed : List Batch) (pairs : List FramePair) (pair : FramePair) where
  kept_fault : (first : FaultAt) → IsFaultAt zone placed pairs first → IsFaultAt zone placed (pairs ++ pair ∷ []) first
  kept_fault first is = record {
    pair = is.pair;
    there = Contains-append_left pairs (pair ∷ []) is.pair is.there;
    at_is = is.at_is;
    faulty = is.faulty;
  }

  clear_more : (first : Option FaultAt) → IsFirstFault zone placed pairs first → IsClearPair zone placed pair → IsFirstFault zone placed (pairs ++ pair ∷ []) first
  clear_more None all clear = All-push (IsClearPair zone placed) pairs pair all clear
  clear_more (Some first) (is, all) clear = (
    kept_fault first is,
    All-push (λ p. p.at < first.at → IsClearPair zone placed p) pairs pair all (λ _. clear),
  )

  faulty_more : (first : Option FaultAt) (fault : Fault) → IsFirstFault zone placed pairs first → IsFaulty zone placed (input_in pair) (output_in pair) fault → IsFirstFault zone placed (pairs ++ pair ∷ []) (Some (earlier first (record { at = pair.at; fault = fault })))
  faulty_more None fault all faulty = (
    record { pair = pair; there = Contains-push pairs pair; at_is = refl; faulty = faulty },
    All-push (λ p. p.at < pair.at → IsClearPair zone placed p) pairs pair
        (All-weaker (IsClearPair zone placed) (λ p. p.at < pair.at → IsClearPair zone placed p) (λ p clear _. clear) pairs all)
        (λ lt. absurd (omega (arith, lt))),
  )
  faulty_more (Some first) fault (is, all) faulty = by (nat_lt first.at pair.at) refl
    where
      by : (t : Bool) → nat_lt first.at pair.at ≡ t → IsFirstFault zone placed (pairs ++ pair ∷ []) (Some (if t then first else (record { at = pair.at; fault = fault })))
      by true e =
          let lt : first.at < pair.at = (Decides-ltb first.at pair.at).0 e in (
            kept_fault first is,
            All-push (λ p. p.at < first.at → IsClearPair zone placed p) pairs pair all (λ lt'. absurd (omega (arith, lt, lt'))),
          )
      by false e =
          let not : (first.at < pair.at → ⊥) = λ lt. false≢true (sym e ∙ (Decides-ltb first.at pair.at).1 lt) in (
            record { pair = pair; there = Contains-push pairs pair; at_is = refl; faulty = faulty },
            All-push (λ p. p.at < pair.at → IsClearPair zone placed p) pairs pair
                (All-weaker (λ p. p.at < first.at → IsClearPair zone placed p) (λ p. p.at < pair.at → IsClearPair zone placed p)
                (λ p clear lt. clear (omega (arith, lt, not))) pairs all)
                (λ lt. absurd (omega (arith, lt))),
          )

  first_more : (first : Option FaultAt) (found : Option Fault) → IsFirstFault zone placed pairs first → IsFaultIn zone placed (input_in pair) (output_in pair) found → IsFirstFault zone placed (pairs ++ pair ∷ []) (first_with first pair.at found)
  first_more first None is clear = clear_more first is clear
  first_more first (Some fault) is faulty = faulty_more first fault is faulty

-- ---- the walk

-- so many pairs are answered, this is the version that they make, and this the first fault of their replies
pub record HasWalked (zone : Zone) (pairs : List FramePair) (n : ℕ) (store : Held) (number : ℕ) (first : Option FaultAt) : Type 0 where
  pub placed : List Batch
  pub answered : HasAnswered pairs n placed store number
  pub first_is : (after : List Batch) → IsFirstFault zone (placed ++ after) (take n pairs) first

pub walked_none : (zone : Zone) (pairs : List FramePair) (store : Held) (first : Option FaultAt) → store ≡ nothing_held → first ≡ None → HasWalked zone pairs 0 store 0 first
walked_none zone pairs store first empty none = record {
  placed = [];
  answered = subst (λ s. HasAnswered pairs 0 [] s 0) (sym empty) (answered_none pairs);
  first_is = λ after. subst (IsFirstFault zone ([] ++ after) (take 0 pairs)) (sym none) (All-nil (IsClearPair zone ([] ++ after)));
}

module _ (zone : Zone) (pairs : List FramePair) (n : ℕ) (pair : FramePair) (within : n < length pairs) (at : pair ≡ get_or pairs n pair) where
  take_pair : take (n + 1) pairs ≡ take n pairs ++ pair ∷ []
  take_pair = take_more pairs n pair within ∙ ap (λ p. take n pairs ++ p ∷ []) (sym at)

  pub walked_more : (store store' : Held) (number number' : ℕ) (first : Option FaultAt) (found : Option Fault) (more : List Batch) (has : HasWalked zone pairs n store number first) → IsRight has.placed (input_in pair) (output_in pair) more
      → store' ≡ kept_of (has.placed ++ more) → number' ≡ number + length more → length more ≤ 1 → ((after : List Batch) → IsFaultIn zone (has.placed ++ after) (input_in pair) (output_in pair) found)
      → HasWalked zone pairs (n + 1) store' number' (first_with first pair.at found)
  walked_more store store' number number' first found more has right store_is number_is small fault = record {
    placed = has.placed ++ more;
    answered = answered_more pairs n pair within at has.placed store store' number number' has.answered more right store_is number_is small;
    first_is = λ after.
        subst (λ l. IsFirstFault zone l (take (n + 1) pairs) (first_with first pair.at found)) (sym (append_assoc has.placed more after))
        (subst (λ ps. IsFirstFault zone (has.placed ++ (more ++ after)) ps (first_with first pair.at found)) (sym take_pair)
        (first_more zone (has.placed ++ (more ++ after)) (take n pairs) pair first found (has.first_is (more ++ after)) (fault (more ++ after))));
  }

  -- a pair that places nothing
  walked_told : (store : Held) (number : ℕ) (first : Option FaultAt) (found : Option Fault) (has : HasWalked zone pairs n store number first) → IsRight has.placed (input_in pair) (output_in pair) [] → IsFaultIn zone has.placed (input_in pair) (output_in pair) found → HasWalked zone pairs (n + 1) store number (first_with first pair.at found)
  walked_told store number first found has right fault =
      walked_more store store number number first found [] has right (has.answered.store_is ∙ ap kept_of (sym (append-nil has.placed))) (omega arith) (omega arith)
      (λ after. fault_after zone has.placed after (input_in pair) (output_in pair) found (right_version has.placed (input_in pair) (output_in pair) right) fault)

  -- one that places a batch
  walked_placed : (store : Held) (number : ℕ) (first : Option FaultAt) (batch : Batch) (has : HasWalked zone pairs n store number first) → IsRight has.placed (input_in pair) (output_in pair) (batch ∷ []) → HasWalked zone pairs (n + 1) (kept_after store batch) (number + 1) first
  walked_placed store number first batch has right =
      walked_more store (kept_after store batch) number (number + 1) first None (batch ∷ []) has right
      (ap (λ s. kept_after s batch) has.answered.store_is ∙ kept_with has.placed batch) refl (omega arith)
      (λ after. placed_clear zone has.placed (has.placed ++ after) (input_in pair) (output_in pair) batch right)

-- ---- the pair as it is read

module _ (zone : Zone) (pairs : List FramePair) (n : ℕ) (d : FramePair) (store : Held) (number : ℕ) (first : Option FaultAt) (checked : Checked) (has : HasWalked zone pairs n store number first) (within : n < length pairs)
    (searched : Zone) (search_is : searched ≡ zone) (is : (placed : List Batch) → store ≡ kept_of placed → number ≡ length placed → IsChecked searched placed (input_in (get_or pairs n d)) (output_in (get_or pairs n d)) checked) where
  same_at : get_or pairs n d ≡ get_or pairs n (get_or pairs n d)
  same_at = get_or_default pairs n d (get_or pairs n d) within

  checked_as : (other : Checked) → checked ≡ other → IsChecked zone has.placed (input_in (get_or pairs n d)) (output_in (get_or pairs n d)) other
  checked_as other same = subst (IsChecked zone has.placed (input_in (get_or pairs n d)) (output_in (get_or pairs n d))) same
      (subst (λ z. IsChecked z has.placed (input_in (get_or pairs n d)) (output_in (get_or pairs n d)) checked) search_is (is has.placed has.answered.store_is has.answered.number_is))

  moved : (store' store'' : Held) (number' number'' : ℕ) (first' first'' : Option FaultAt) → HasWalked zone pairs (n + 1) store'' number'' first'' → store' ≡ store'' → number' ≡ number'' → first' ≡ first'' → HasWalked zone pairs (n + 1) store' number' first'
  moved store' store'' number' number'' first' first'' walked store_is number_is first_is =
      subst (λ s. HasWalked zone pairs (n + 1) s number' first') (sym store_is)
      (subst (λ m. HasWalked zone pairs (n + 1) store'' m first') (sym number_is)
      (subst (HasWalked zone pairs (n + 1) store'' number'') (sym first_is) walked))

  pub wrong_at : checked ≡ Wrong → IsNonDecreasingBy rank_of pairs → AreInTurn pairs → AreAnswers (inputs_in pairs) (outputs_in pairs) → ⊥
  wrong_at wrong ranked turns = answered_wrong pairs n (get_or pairs n d) within same_at ranked turns has.placed store number has.answered (checked_as Wrong wrong)

  module _ (store' : Held) (number' : ℕ) (first' : Option FaultAt) where
    pub right_at : checked ≡ Right → store' ≡ store → number' ≡ number → first' ≡ first → HasWalked zone pairs (n + 1) store' number' first'
    right_at right =
        let both = checked_as Right right in
        moved store' store number' number first' first (walked_told zone pairs n (get_or pairs n d) within same_at store number first None has both.0 both.1)

    pub faulty_at : (fault : Fault) → checked ≡ Faulty fault → store' ≡ store → number' ≡ number → first' ≡ Some (earlier first (record { at = (get_or pairs n d).at; fault = fault })) → HasWalked zone pairs (n + 1) store' number' first'
    faulty_at fault faulty =
        let both = checked_as (Faulty fault) faulty in
        moved store' store number' number first' (Some (earlier first (record { at = (get_or pairs n d).at; fault = fault })))
        (walked_told zone pairs n (get_or pairs n d) within same_at store number first (Some fault) has both.0 both.1)

    pub placed_at : (batch : Batch) → checked ≡ Placed batch → store' ≡ kept_after store batch → number' ≡ number + 1 → first' ≡ first → HasWalked zone pairs (n + 1) store' number' first'
    placed_at batch placed =
        moved store' (kept_after store batch) number' (number + 1) first' first
        (walked_placed zone pairs n (get_or pairs n d) within same_at store number first batch has (checked_as (Placed batch) placed))

pub walked_all : (zone : Zone) (pairs : List FramePair) (n : ℕ) (store : Held) (number : ℕ) (first : Option FaultAt) → HasWalked zone pairs n store number first → n ≤ length pairs → length pairs ≤ n → HasFirst zone pairs first
walked_all zone pairs n store number first has short long = whole (subst (λ m. HasWalked zone pairs m store number first) (omega (arith, short, long)) has)
  where
    whole : HasWalked zone pairs (length pairs) store number first → HasFirst zone pairs first
    whole has =
        let all = answered_all pairs has.placed store number has.answered in
        record {
          answers = record { placed = has.placed; number = all.0; each = all.1 };
          first_is =
              subst (λ l. IsFirstFault zone l pairs first) (append-nil has.placed)
              (subst (λ ps. IsFirstFault zone (has.placed ++ []) ps first) (take_all (length pairs) pairs (omega arith)) (has.first_is []));
        }

-- ---- another order of the pairs

pub first_moved : (zone : Zone) (placed : List Batch) (pairs moved : List FramePair) → IsPermutation pairs moved → (first : Option FaultAt) → IsFirstFault zone placed pairs first → IsFirstFault zone placed moved first
first_moved zone placed pairs moved same None all = All-permutation (IsClearPair zone placed) pairs moved same all
first_moved zone placed pairs moved same (Some first) (is, all) = (
  record { pair = is.pair; there = Contains-permutation pairs moved is.pair same is.there; at_is = is.at_is; faulty = is.faulty },
  All-permutation (λ p. p.at < first.at → IsClearPair zone placed p) pairs moved same all,
)
