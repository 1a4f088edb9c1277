-- Pairs of frames, and the lists of frames that they are of.
use Rattle.std.proofs.Common.{◌≡◌, ℕ, zero, suc, ◌+◌, ◌<◌, ◌≤◌, ◌⊎◌, inl, inr, Bool, true, false, ◌==◌, IsTrue, ◌↔◌, cond, List, [], ◌∷◌, ◌++◌, length, map, take, get_or, refl, sym, ◌∙◌, ap, subst, arith}
use Rattle.std.specs.List.{All, AllZip, count_by}
use Rattle.std.specs.List.Sorted.{IsPermutation, IsNonDecreasingBy}
use Rattle.std.proofs.lemmas.Bool.{false≢true}
use Rattle.std.proofs.lemmas.Bool.Decides.{Decides-eqb}
use Rattle.std.proofs.lemmas.List.{length-map, map-append, map_more, take_all, get_or_default, get_or_append_left, get_or_push, length_push}
use Rattle.std.proofs.lemmas.List.Elements.{All-nil, All-cons, All-head, All-tail, All-map, All-push}
use Rattle.std.proofs.lemmas.List.Sorted.{All-permutation, sum_by-IsPermutation, IsPermutation-sym}
use Rattle.std.proofs.lemmas.List.Sums.{sum_by-cons}
use Rattle.replay_meaning.specs.Frame.{Input, input_of}
use Rattle.replay_meaning.specs.OutFrame.{Output, output_of}
use Rattle.replay_meaning.specs.Fits.{is_placed, places}
use Rattle.run_audit.specs.Clauses.{MOST_WORKERS, IsOneWorkers, ArePaired, AreNumbered, placed_in}
use Rattle.run_audit.specs.Replies.{is_reply}
use Rattle.run_audit.specs.Pairs.{input_in, output_in, inputs_in, outputs_in, is_put, version_in, rank_of, put_before, AreInTurn, IsMatched, AreMatched, AreAtPlaces}
use Rattle.run_audit.specs.declared.pair.FramePair.{FramePair}
use Rattle.replay_meaning.specs.declared.frame.Frame.{Frame}
use Rattle.replay_meaning.specs.declared.out_frame.OutFrame.{OutFrame}
use Rattle.run_audit.proofs.RowLemmas.{IsOnce, places_at, IsRowUpto, row_once, out_of_turn}
use Rattle.std.proofs.lemmas.List.Sums.{count_by_more_yes, count_by_more_no}

-- ---- maps

pub at_map : {X Y : Type 0} (f : X → Y) (xs : List X) (i : ℕ) (d : X) (e : Y) → i < length xs → get_or (map f xs) i e ≡ f (get_or xs i d)
at_map f [] i d e within = absurd (omega (arith, within))
at_map f (x ∷ xs) zero d e within = refl
at_map f (x ∷ xs) (suc i) d e within = at_map f xs i d e (omega (arith, within))

pub count_map : {X Y : Type 0} (f : X → Y) (p : Y → Bool) (xs : List X) → count_by p (map f xs) ≡ count_by (λ x. p (f x)) xs
count_map f p [] = refl
count_map f p (x ∷ xs) = sum_by-cons (λ y. cond (p y) 1 0) (f x) (map f xs) ∙ ap (λ n. cond (p (f x)) 1 0 + n) (count_map f p xs) ∙ sym (sum_by-cons (λ y. cond (p (f y)) 1 0) x xs)

all_unmap : {X Y : Type 0} (P : Y → Type 0) (f : X → Y) (xs : List X) → All P (map f xs) → All (λ x. P (f x)) xs
all_unmap P f xs all k d within = subst P (at_map f xs k d (f d) within) (all k (f d) (omega (arith, within, length-map xs f)))

-- ---- two lists that are those of the pairs

pub zip_from : (R : Input → Output → Type 0) (pairs : List FramePair) → All (λ p. R (input_in p) (output_in p)) pairs → AllZip R (inputs_in pairs) (outputs_in pairs)
zip_from R [] all = tt
zip_from R (p ∷ pairs) all = (All-head (λ q. R (input_in q) (output_in q)) p pairs all, zip_from R pairs (All-tail (λ q. R (input_in q) (output_in q)) p pairs all))

pub zip_to : (R : Input → Output → Type 0) (pairs : List FramePair) → AllZip R (inputs_in pairs) (outputs_in pairs) → All (λ p. R (input_in p) (output_in p)) pairs
zip_to R [] each = All-nil (λ q. R (input_in q) (output_in q))
zip_to R (p ∷ pairs) each = All-cons (λ q. R (input_in q) (output_in q)) p pairs each.0 (zip_to R pairs each.1)

-- ---- counts

pub put_count : (pairs : List FramePair) → placed_in (outputs_in pairs) ≡ count_by is_put pairs
put_count pairs = count_map output_in (λ output. is_placed output.kind) pairs

places_count : (version : ℕ) (pairs : List FramePair) → count_by (places version) (outputs_in pairs) ≡ count_by (places_at version_in is_put version) pairs
places_count version pairs = count_map output_in (places version) pairs

pub numbered_from : (pairs : List FramePair) → IsOnce version_in is_put (count_by is_put pairs) pairs → AreNumbered (outputs_in pairs)
numbered_from pairs once = record {
  within = All-map (λ output. is_placed output.kind ≡ true → (1 ≤ output.version) × (output.version ≤ placed_in (outputs_in pairs))) output_in pairs
      (λ k d lt put. let bounds = once.within k d lt put in (bounds.0, omega (arith, bounds.1, put_count pairs)));
  once = λ version some le. places_count version pairs ∙ once.once version some (omega (arith, le, put_count pairs));
}

pub numbered_to : (pairs : List FramePair) → AreNumbered (outputs_in pairs) → IsOnce version_in is_put (count_by is_put pairs) pairs
numbered_to pairs numbered = record {
  within = λ k d lt put.
      let bounds = all_unmap (λ output. is_placed output.kind ≡ true → (1 ≤ output.version) × (output.version ≤ placed_in (outputs_in pairs))) output_in pairs numbered.within k d lt put in
      (bounds.0, omega (arith, bounds.1, put_count pairs));
  once = λ version some le. sym (places_count version pairs) ∙ numbered.once version some (omega (arith, le, put_count pairs));
}

-- so many of the first pairs are replies
pub record HasReplies (pairs : List FramePair) (n replies : ℕ) : Type 0 where
  pub counted : replies ≡ count_by (λ pair. is_reply (output_in pair)) (take n pairs)
  pub few : replies ≤ n

pub replies_none : (pairs : List FramePair) → HasReplies pairs 0 0
replies_none pairs = record { counted = refl; few = omega arith }

pub replies_more : (pairs : List FramePair) (n : ℕ) (d : FramePair) (replies replies' : ℕ) (r : Bool) → n < length pairs → HasReplies pairs n replies → r ≡ is_reply (output_in (get_or pairs n d))
    → ((r ≡ true) × (replies' ≡ replies + 1)) ⊎ ((r ≡ false) × (replies' ≡ replies)) → HasReplies pairs (n + 1) replies'
replies_more pairs n d replies replies' r within has is (inl (yes', more)) =
    let one = count_by_more_yes (λ pair. is_reply (output_in pair)) pairs n d within (sym is ∙ yes') in
    record { counted = omega (arith, more, has.counted, one); few = omega (arith, more, has.few) }
replies_more pairs n d replies replies' r within has is (inr (no', same)) =
    let none = count_by_more_no (λ pair. is_reply (output_in pair)) pairs n d within (sym is ∙ no') in
    record { counted = omega (arith, same, has.counted, none); few = omega (arith, same, has.few) }

pub replies_all : (pairs : List FramePair) (n replies : ℕ) → HasReplies pairs n replies → length pairs ≤ n → replies ≡ count_by is_reply (outputs_in pairs)
replies_all pairs n replies has long =
    has.counted ∙ ap (count_by (λ pair. is_reply (output_in pair))) (take_all n pairs long) ∙ sym (count_map output_in is_reply pairs)

-- ---- another order of the pairs

once_moved : (pairs moved : List FramePair) → IsPermutation pairs moved → IsOnce version_in is_put (count_by is_put pairs) pairs → IsOnce version_in is_put (count_by is_put moved) moved
once_moved pairs moved same once =
    let counts : count_by is_put moved ≡ count_by is_put pairs = sum_by-IsPermutation (λ p. cond (is_put p) 1 0) pairs moved same in
    record {
      within = All-permutation (λ p. is_put p ≡ true → (1 ≤ version_in p) × (version_in p ≤ count_by is_put moved)) pairs moved same
          (λ k d lt put. let bounds = once.within k d lt put in (bounds.0, omega (arith, bounds.1, counts)));
      once = λ version some le.
          sum_by-IsPermutation (λ p. cond (places_at version_in is_put version p) 1 0) pairs moved same ∙ once.once version some (omega (arith, le, counts));
    }

pub numbered_moved : (pairs moved : List FramePair) → IsPermutation pairs moved → AreNumbered (outputs_in pairs) → AreNumbered (outputs_in moved)
numbered_moved pairs moved same numbered = numbered_from moved (once_moved pairs moved same (numbered_to pairs numbered))

pub numbered_back : (pairs moved : List FramePair) → IsPermutation pairs moved → AreNumbered (outputs_in moved) → AreNumbered (outputs_in pairs)
numbered_back pairs moved same = numbered_moved moved pairs (IsPermutation-sym pairs moved same)

pub put_moved : (pairs moved : List FramePair) → IsPermutation pairs moved → count_by is_put moved ≡ count_by is_put pairs
put_moved pairs moved same = sum_by-IsPermutation (λ p. cond (is_put p) 1 0) pairs moved same

-- ---- pairs of two lists

-- one more pair, at its place
places_more : (pairs : List FramePair) (n : ℕ) (pair : FramePair) → length pairs ≡ n → pair.at ≡ n → AreAtPlaces pairs → AreAtPlaces (pairs ++ pair ∷ [])
places_more pairs n pair long at places i d within = by (i == n) refl
  where
    by : (t : Bool) → (i == n) ≡ t → (get_or (pairs ++ pair ∷ []) i d).at ≡ i
    by true e =
        let same : i ≡ n = (Decides-eqb i n).0 e in
        ap (λ p. p.at) (get_or_push pairs pair d i (long ∙ sym same)) ∙ at ∙ sym same
    by false e =
        let other : (i ≡ n → ⊥) = λ same. false≢true (sym e ∙ (Decides-eqb i n).1 same) in
        let inside : i < length pairs = omega (arith, within, length_push pairs pair, long, other) in
        ap (λ p. p.at) (get_or_append_left pairs (pair ∷ []) d i inside) ∙ places i d inside

-- so many frames are in pairs
pub record HasPaired (frames : List Frame) (outputs : List OutFrame) (n : ℕ) (pairs : List FramePair) : Type 0 where
  pub inputs_are : inputs_in pairs ≡ map input_of (take n frames)
  pub outputs_are : outputs_in pairs ≡ map output_of (take n outputs)
  pub matched : AreMatched pairs
  pub long : length pairs ≡ n
  pub places : AreAtPlaces pairs

pub paired_none : (frames : List Frame) (outputs : List OutFrame) → HasPaired frames outputs 0 []
paired_none frames outputs = record {
  inputs_are = refl;
  outputs_are = refl;
  matched = All-nil IsMatched;
  long = refl;
  places = λ i d within. absurd (omega (arith, within));
}

map_next : {X Y : Type 0} (f : X → Y) (xs : List X) (n : ℕ) (x : X) → n < length xs → x ≡ get_or xs n x → map f (take (n + 1) xs) ≡ map f (take n xs) ++ f x ∷ []
map_next f xs n x within is = map_more f xs n x within ∙ ap (λ y. map f (take n xs) ++ f y ∷ []) (sym is)

pub paired_more : (frames : List Frame) (outputs : List OutFrame) (n : ℕ) (pairs : List FramePair) (pair : FramePair) → HasPaired frames outputs n pairs → n < length frames → n < length outputs → pair.frame ≡ get_or frames n pair.frame → pair.output ≡ get_or outputs n pair.output → pair.at ≡ n → IsMatched pair → HasPaired frames outputs (n + 1) (pairs ++ pair ∷ [])
paired_more frames outputs n pairs pair has within inside is is' at matched = record {
  inputs_are = map-append input_in pairs (pair ∷ []) ∙ ap (λ l. l ++ input_in pair ∷ []) has.inputs_are ∙ sym (map_next input_of frames n pair.frame within is);
  outputs_are = map-append output_in pairs (pair ∷ []) ∙ ap (λ l. l ++ output_in pair ∷ []) has.outputs_are ∙ sym (map_next output_of outputs n pair.output inside is');
  matched = All-push IsMatched pairs pair has.matched matched;
  long = length_push pairs pair ∙ ap (λ m. m + 1) has.long;
  places = places_more pairs n pair has.long at has.places;
}

pub paired_all : (frames : List Frame) (outputs : List OutFrame) (n : ℕ) (pairs : List FramePair) → HasPaired frames outputs n pairs → length frames ≤ n → length outputs ≤ n → (inputs_in pairs ≡ map input_of frames) × (outputs_in pairs ≡ map output_of outputs) × AreMatched pairs × AreAtPlaces pairs
paired_all frames outputs n pairs has long long' = (
  has.inputs_are ∙ ap (map input_of) (take_all n frames long),
  has.outputs_are ∙ ap (map output_of) (take_all n outputs long'),
  has.matched,
  has.places,
)

pub not_as_many : (frames : List Frame) (outputs : List OutFrame) → (length frames ≡ length outputs → ⊥) → ArePaired MOST_WORKERS (map input_of frames) (map output_of outputs) → ⊥
not_as_many frames outputs apart paired =
    apart (sym (length-map frames input_of) ∙ zip_length (map input_of frames) (map output_of outputs) paired ∙ length-map outputs output_of)
  where
    zip_length : (xs : List Input) (ys : List Output) → ArePaired MOST_WORKERS xs ys → length xs ≡ length ys
    zip_length [] [] each = refl
    zip_length [] (y ∷ ys) each = absurd each
    zip_length (x ∷ xs) [] each = absurd each
    zip_length (x ∷ xs) (y ∷ ys) each = ap suc (zip_length xs ys each.1)

zip_at : (R : Input → Output → Type 0) (xs : List Input) (ys : List Output) (n : ℕ) (d : Input) (e : Output) → AllZip R xs ys → n < length xs → R (get_or xs n d) (get_or ys n e)
zip_at R [] ys n d e each within = absurd (omega (arith, within))
zip_at R (x ∷ xs) [] n d e each within = absurd each
zip_at R (x ∷ xs) (y ∷ ys) zero d e each within = each.0
zip_at R (x ∷ xs) (y ∷ ys) (suc n) d e each within = zip_at R xs ys n d e each.1 (omega (arith, within))

pub not_one_workers : (frames : List Frame) (outputs : List OutFrame) (n : ℕ) (frame : Frame) (output : OutFrame) → n < length frames → n < length outputs → frame ≡ get_or frames n frame → output ≡ get_or outputs n output → (IsOneWorkers MOST_WORKERS (input_of frame) (output_of output) → ⊥) → ArePaired MOST_WORKERS (map input_of frames) (map output_of outputs) → ⊥
not_one_workers frames outputs n frame output within inside is is' not paired =
    not (subst (λ f. IsOneWorkers MOST_WORKERS (input_of f) (output_of output)) (sym is)
    (subst (λ o. IsOneWorkers MOST_WORKERS (input_of (get_or frames n frame)) (output_of o)) (sym is')
    (subst (λ i. IsOneWorkers MOST_WORKERS i (output_of (get_or outputs n output))) (at_map input_of frames n frame (input_of frame) within)
    (subst (λ o. IsOneWorkers MOST_WORKERS (get_or (map input_of frames) n (input_of frame)) o) (at_map output_of outputs n output (output_of output) inside)
    (zip_at (IsOneWorkers MOST_WORKERS) (map input_of frames) (map output_of outputs) n (input_of frame) (output_of output) paired (omega (arith, within, length-map frames input_of)))))))

-- ---- the placed versions in turn

-- so many pairs are in turn, and so many of them place a batch
pub record HasCounted (pairs : List FramePair) (n number : ℕ) : Type 0 where
  pub row : IsRowUpto version_in is_put n pairs
  pub number_is : number ≡ put_before n pairs
  pub few : number ≤ n

pub counted_none : (pairs : List FramePair) → HasCounted pairs 0 0
counted_none pairs = record { row = λ i d low. absurd (omega (arith, low)); number_is = refl; few = omega arith }

row_more : (pairs : List FramePair) (n : ℕ) (pair : FramePair) → n < length pairs → pair ≡ get_or pairs n pair → IsRowUpto version_in is_put n pairs → (is_put pair ≡ true → version_in pair ≡ put_before n pairs + 1) → IsRowUpto version_in is_put (n + 1) pairs
row_more pairs n pair within is row turn i d low inside put = by (i == n) refl
  where
    by : (t : Bool) → (i == n) ≡ t → version_in (get_or pairs i d) ≡ put_before i pairs + 1
    by true e =
        let same : i ≡ n = (Decides-eqb i n).0 e in
        let f : get_or pairs i d ≡ pair = ap (λ k. get_or pairs k d) same ∙ get_or_default pairs n d pair within ∙ sym is in
        ap version_in f ∙ turn (ap is_put (sym f) ∙ put) ∙ ap (λ k. put_before k pairs + 1) (sym same)
    by false e = row i d (omega (arith, low, λ (s : i ≡ n). false≢true (sym e ∙ (Decides-eqb i n).1 s))) inside put

module _ (pairs : List FramePair) (n number : ℕ) (pair : FramePair) (within : n < length pairs) (is : pair ≡ get_or pairs n pair) (has : HasCounted pairs n number) where
  pub counted_met : is_put pair ≡ false → HasCounted pairs (n + 1) number
  counted_met not = record {
    row = row_more pairs n pair within is has.row (λ put. absurd (false≢true (sym not ∙ put)));
    number_is = has.number_is ∙ sym (count_by_more_no is_put pairs n pair within (ap is_put (sym is) ∙ not));
    few = omega (arith, has.few);
  }

  pub counted_put : is_put pair ≡ true → version_in pair ≡ number + 1 → HasCounted pairs (n + 1) (number + 1)
  counted_put put turn = record {
    row = row_more pairs n pair within is has.row (λ _. turn ∙ ap (λ m. m + 1) has.number_is);
    number_is = ap (λ m. m + 1) has.number_is ∙ sym (count_by_more_yes is_put pairs n pair within (ap is_put (sym is) ∙ put));
    few = omega (arith, has.few);
  }

  pub not_numbered : IsNonDecreasingBy rank_of pairs → is_put pair ≡ true → (version_in pair ≡ number + 1 → ⊥) → AreNumbered (outputs_in pairs) → ⊥
  not_numbered ranked put apart numbered =
      out_of_turn version_in is_put pairs ranked n has.row pair within (ap is_put (sym is) ∙ put)
      (λ turn. apart (ap version_in is ∙ turn ∙ ap (λ m. m + 1) (sym has.number_is))) (numbered_to pairs numbered)

pub turns_from : (pairs : List FramePair) (n number : ℕ) → HasCounted pairs n number → length pairs ≤ n → AreInTurn pairs
turns_from pairs n number has long i d inside put = has.row i d (omega (arith, inside, long)) inside put

-- pairs in turn have each version once
pub turns_numbered : (pairs : List FramePair) → AreInTurn pairs → AreNumbered (outputs_in pairs)
turns_numbered pairs turns = numbered_from pairs (row_once version_in is_put pairs (λ i d low inside put. turns i d inside put))

pub not_numbered_at : (pairs : List FramePair) (n number : ℕ) (d : FramePair) (put : Bool) (version : ℕ) → HasCounted pairs n number → n < length pairs → IsNonDecreasingBy rank_of pairs → put ≡ is_put (get_or pairs n d) → put ≡ true → version ≡ (get_or pairs n d).output.version → (version ≡ number + 1 → ⊥) → AreNumbered (outputs_in pairs) → ⊥
not_numbered_at pairs n number d put version has within ranked is yes' version_is apart =
    not_numbered pairs n number (get_or pairs n d) within (get_or_default pairs n d (get_or pairs n d) within) has ranked (sym is ∙ yes') (λ turn. apart (version_is ∙ turn))

pub not_one_at : (frames : List Frame) (outputs : List OutFrame) (n : ℕ) (d : Frame) (e : OutFrame) (r : Bool) → n < length frames → n < length outputs → (IsTrue r ↔ IsOneWorkers MOST_WORKERS (input_of (get_or frames n d)) (output_of (get_or outputs n e))) → r ≡ false → ArePaired MOST_WORKERS (map input_of frames) (map output_of outputs) → ⊥
not_one_at frames outputs n d e r within inside decides no' =
    not_one_workers frames outputs n (get_or frames n d) (get_or outputs n e) within inside (get_or_default frames n d (get_or frames n d) within) (get_or_default outputs n e (get_or outputs n e) inside)
    (λ one. false≢true (sym no' ∙ decides.1 one))
