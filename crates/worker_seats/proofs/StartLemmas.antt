-- Where a range of the frames begins.
use Rattle.std.proofs.Common.{◌≡◌, ℕ, zero, suc, ◌+◌, ◌*◌, ◌<◌, ◌≤◌, Bool, true, false, ◌==◌, cond, List, [], ◌∷◌, ◌++◌, length, take, drop, get_or, set, refl, sym, ◌∙◌, ap, subst, arith, length-append}
use Rattle.std.specs.List.{All, AllZip}
use Rattle.std.proofs.lemmas.Bool.{false≢true}
use Rattle.std.proofs.lemmas.Bool.Decides.{Decides-eqb}
use Rattle.std.proofs.lemmas.List.{drop_at, get_or-set_same, get_or-set_other, length-map, take_at, take-append-drop, get_or-map}
use Rattle.std.proofs.lemmas.List.Concat.{flat_map-append}
use Rattle.std.proofs.lemmas.List.Elements.{All-drop, All-filter, All-head, filter-append}
use Rattle.facts.proofs.Lists.{some_of}
use Rattle.replay_meaning.specs.Frame.{Input, IsInput, input_spelling, inputs_spelling}
use Rattle.replay_meaning.specs.OutFrame.{Output, IsOutput, outputs_spelling}
use Rattle.worker_seats.specs.Cuts.{AreCut, AreCuts, IsCut, Part, cuts_in, parts_of}
use Rattle.worker_seats.specs.Frames.{AreSpelled}
use Rattle.worker_seats.specs.Merge.{AreMerged}
use Rattle.worker_seats.specs.Ranges.{IsCutBefore}
use Rattle.worker_seats.specs.Workers.{HasSameWorker, inputs_of, outputs_of}
use Rattle.worker_seats.specs.declared.cut.Cut.{Cut}
use Rattle.worker_seats.specs.declared.cut.TheConstants.{RANGE}

-- ---- the input

pub no_worker : (workers : ℕ) (inputs : List Input) → workers ≡ 0 → All (λ input. input.worker < workers) inputs → inputs ≡ []
no_worker workers [] none below = refl
no_worker workers (input ∷ inputs) none below = absurd (omega (arith, none, All-head (λ (i : Input). i.worker < workers) input inputs below))

pub no_cuts : (workers : ℕ) (inputs : List Input) → workers ≡ 0 → All (λ input. input.worker < workers) inputs → cuts_in (length inputs) ≡ 0
no_cuts workers inputs none below = ap (λ (l : List Input). cuts_in (length l)) (no_worker workers inputs none below)

drop_none : (n : ℕ) → drop {A = Input} n [] ≡ []
drop_none zero = refl
drop_none (suc n) = refl

pub rest_none : (workers n : ℕ) (inputs : List Input) (octets : List ℕ) → workers ≡ 0 → All (λ input. input.worker < workers) inputs → AreSpelled octets inputs → AreSpelled octets (drop n inputs)
rest_none workers n inputs octets none below spelled =
    let nil = no_worker workers inputs none below in
    subst (AreSpelled octets) (nil ∙ sym (drop_none n) ∙ ap (drop n) (sym nil)) spelled

module _ (n from : ℕ) (inputs : List Input) (octets : List ℕ) (spelled : AreSpelled octets inputs) (is : from ≡ length (inputs_spelling (take n inputs))) where
  split : octets ≡ inputs_spelling (take n inputs) ++ inputs_spelling (drop n inputs)
  split = spelled.0 ∙ ap inputs_spelling (sym (take-append-drop n inputs)) ∙ flat_map-append input_spelling (take n inputs) (drop n inputs)

  pub from_within : from ≤ length octets
  from_within = omega (arith, is, ap length split, length-append (inputs_spelling (take n inputs)) (inputs_spelling (drop n inputs)))

  pub rest_spelled : AreSpelled (drop from octets) (drop n inputs)
  rest_spelled = (
    ap (drop from) split ∙ drop_at (inputs_spelling (take n inputs)) (inputs_spelling (drop n inputs)) from (sym is),
    All-drop IsInput n inputs spelled.1,
  )

-- ---- the places

same_step : (a b : Bool) {X Y : Type 0} (x : X) (y : Y) (xs : List X) (ys : List Y) → a ≡ b → length xs ≡ length ys → length (cond a (x ∷ xs) xs) ≡ length (cond b (y ∷ ys) ys)
same_step true b x y xs ys is same = ap (λ n. suc n) same ∙ ap (λ c. length (cond c (y ∷ ys) ys)) is
same_step false b x y xs ys is same = same ∙ ap (λ c. length (cond c (y ∷ ys) ys)) is

same_many : (worker n : ℕ) (inputs : List Input) (outputs : List Output) → AllZip HasSameWorker inputs outputs → length (outputs_of worker (take n outputs)) ≡ length (inputs_of worker (take n inputs))
same_many worker zero inputs outputs same = refl
same_many worker (suc n) [] [] same = refl
same_many worker (suc n) [] (output ∷ outputs) same = absurd same
same_many worker (suc n) (input ∷ inputs) [] same = absurd same
same_many worker (suc n) (input ∷ inputs) (output ∷ outputs) same =
    same_step (output.worker == worker) (input.worker == worker) output input (outputs_of worker (take n outputs)) (inputs_of worker (take n inputs)) (ap (λ w. w == worker) same.0) (same_many worker n inputs outputs same.1)

place_of_cut : (parts : List Part) (inputs : List Input) (n worker : ℕ) (part : Part) (cut : Cut) → worker < length parts → part ≡ get_or parts worker part → IsCut worker inputs part.octets n cut
    → (octets : List ℕ) (merged : AreMerged (parts_of parts) inputs octets) → cut.place ≡ length (outputs_spelling (outputs_of worker (take n merged.outputs)))
place_of_cut parts inputs n worker part cut lt is cuts octets merged =
    let mine = outputs_of worker (take n merged.outputs) in
    let others = outputs_of worker (drop n merged.outputs) in
    let own : part.octets ≡ outputs_spelling (outputs_of worker merged.outputs) =
    ap (λ (p : Part). p.octets) is ∙ sym (get_or-map (λ (p : Part). p.octets) parts worker part [] lt) ∙ merged.each worker [] (omega (arith, lt, length-map parts (λ (p : Part). p.octets))) in
    let whole : outputs_of worker merged.outputs ≡ mine ++ others =
    ap (outputs_of worker) (sym (take-append-drop n merged.outputs)) ∙ filter-append (λ (o : Output). o.worker == worker) (take n merged.outputs) (drop n merged.outputs) in
    let many = length (inputs_of worker (take n inputs)) in
    cuts.place (outputs_of worker merged.outputs) (All-filter (λ (o : Output). o.worker == worker) IsOutput merged.outputs merged.valid) own
    ∙ ap (λ l. length (outputs_spelling (take many l))) whole
    ∙ ap (λ l. length (outputs_spelling l)) (take_at mine others many (same_many worker n inputs merged.outputs merged.same))

-- the places of so many workers are found
abbrev pub HasPlaces : List Part → List Input → ℕ → ℕ → List ℕ → Type 0
HasPlaces parts inputs n count places =
    (octets : List ℕ) (merged : AreMerged (parts_of parts) inputs octets) (worker : ℕ) → worker < count
    → get_or places worker 0 ≡ length (outputs_spelling (outputs_of worker (take n merged.outputs)))

module _ (parts : List Part) (inputs : List Input) (n count : ℕ) (places : List ℕ) (has : HasPlaces parts inputs n count places) (place : ℕ) (room : count < length places) (is : (octets : List ℕ) (merged : AreMerged (parts_of parts) inputs octets) → place ≡ length (outputs_spelling (outputs_of count (take n merged.outputs)))) where
  place_at : (octets : List ℕ) (merged : AreMerged (parts_of parts) inputs octets) (w : ℕ) → w < count + 1 → (b : Bool) → (count == w) ≡ b → get_or (set places count place) w 0 ≡ length (outputs_spelling (outputs_of w (take n merged.outputs)))
  place_at octets merged w lt true mine =
      subst (λ v. get_or (set places count place) v 0 ≡ length (outputs_spelling (outputs_of v (take n merged.outputs)))) ((Decides-eqb count w).0 mine)
      (get_or-set_same places count place 0 room ∙ is octets merged)
  place_at octets merged w lt false mine =
      let other : count ≡ w → ⊥ = λ own. false≢true (sym mine ∙ (Decides-eqb count w).1 own) in
      get_or-set_other places count w place 0 (λ own. other (sym own)) ∙ has octets merged w (omega (arith, lt, other))

  pub places_more : HasPlaces parts inputs n (count + 1) (set places count place)
  places_more = λ octets merged w lt. place_at octets merged w lt (count == w) refl

same_part : (parts : List Part) (worker : ℕ) (d e : Part) → worker < length parts → get_or parts worker d ≡ get_or parts worker e
same_part [] worker d e lt = absurd (omega (arith, lt))
same_part (part ∷ parts) zero d e lt = refl
same_part (part ∷ parts) (suc worker) d e lt = same_part parts worker d e (omega (arith, lt))

module _ (parts : List Part) (inputs : List Input) (cut : AreCut parts inputs) (worker : ℕ) (lt : worker < length parts) (cuts : List Cut) (is : (d : Part) → cuts ≡ (get_or parts worker d).cuts) where
  abbrev its_part : Part
  its_part = get_or parts worker (some_of parts worker lt)

  are : AreCuts worker inputs its_part.octets cuts
  are = subst (AreCuts worker inputs its_part.octets) (sym (is (some_of parts worker lt))) (cut worker (some_of parts worker lt) lt)

  pub many_cuts : length cuts ≡ cuts_in (length inputs)
  many_cuts = are.many

  module _ (range : ℕ) (found : Cut) (before : IsCutBefore range cuts found) where
    pub cut_from : found.from ≡ length (inputs_spelling (take (RANGE * range) inputs))
    cut_from = (before worker inputs its_part.octets are).from

    pub cut_place : (octets : List ℕ) (merged : AreMerged (parts_of parts) inputs octets) → found.place ≡ length (outputs_spelling (outputs_of worker (take (RANGE * range) merged.outputs)))
    cut_place = place_of_cut parts inputs (RANGE * range) worker its_part found lt (same_part parts worker (some_of parts worker lt) its_part lt) (before worker inputs its_part.octets are)
