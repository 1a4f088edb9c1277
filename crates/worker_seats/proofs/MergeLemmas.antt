-- The outputs of all workers, merged in the order of the inputs.
use Rattle.std.proofs.Common.{◌≡◌, ℕ, suc, zero, ◌+◌, ◌<◌, ◌≤◌, Bool, true, false, ◌==◌, List, [], ◌∷◌, ◌++◌, length, take, drop, get_or, set, Option, refl, sym, ◌∙◌, ap, subst, arith, append_assoc, length-append, length-set}
use Rattle.std.specs.List.{All, AllZip}
use Rattle.std.proofs.lemmas.Bool.{false≢true}
use Rattle.std.proofs.lemmas.Bool.Decides.{Decides-eqb}
use Rattle.std.proofs.lemmas.List.{append-nil, drop_at, drop_more, get_or-set_same, get_or-set_other, length-drop, length-map, take-append-drop, take_all, take_more, get_or-map}
use Rattle.std.proofs.lemmas.List.Concat.{flat_map-append}
use Rattle.std.proofs.lemmas.List.Elements.{All-head, All-tail, filter-append}
use Rattle.std.proofs.lemmas.Slice.Zip.{AllZip-long}
use Rattle.facts.proofs.Lists.{some_of}
use Rattle.outside_core.specs.Told.{append_told}
use Rattle.outside_core.proofs.ToldLemmas.{append_told-append_told}
use Rattle.replay_meaning.specs.Frame.{Input, IsInput, input_spelling, inputs_spelling}
use Rattle.replay_meaning.specs.OutFrame.{Output, IsOutput, output_spelling, outputs_spelling}
use Rattle.replay_meaning.proofs.FrameLemmas.{spelling-push}
use Rattle.worker_seats.specs.Cuts.{Part, parts_of}
use Rattle.worker_seats.specs.Frames.{AreSpelled}
use Rattle.worker_seats.specs.Gather.{Gathers, IsPartWritten}
use Rattle.worker_seats.specs.Merge.{AreMerged, BeginsWithFrame, CanBeMerged}
use Rattle.worker_seats.specs.Ranges.{ArePlacesAt}
use Rattle.worker_seats.specs.Workers.{HasSameWorker, outputs_of}
use Rattle.worker_seats.proofs.FramesLemmas.{no_left}
use Rattle.worker_seats.proofs.GatherLemmas.{part_within}
use Rattle.worker_seats.proofs.OwnLemmas.{own_here, own_push, own_push_other}

abbrev worker_of : Output → ℕ
worker_of output = output.worker

-- ---- lists

next_of : (input : Input) (left : List Input) (rest : List Output) → AllZip HasSameWorker (input ∷ left) rest → (output : Output) × (after : List Output) × (rest ≡ output ∷ after) × (output.worker ≡ input.worker)
next_of input left [] same = absurd same
next_of input left (output ∷ after) same = (output, after, refl, same.0)

drop_same : (n : ℕ) (inputs : List Input) (outputs : List Output) → AllZip HasSameWorker inputs outputs → AllZip HasSameWorker (drop n inputs) (drop n outputs)
drop_same zero inputs outputs same = same
drop_same (suc n) [] [] same = tt
drop_same (suc n) [] (output ∷ outputs) same = absurd same
drop_same (suc n) (input ∷ inputs) [] same = absurd same
drop_same (suc n) (input ∷ inputs) (output ∷ outputs) same = drop_same n inputs outputs same.1

first_after : {X : Type 0} (P : X → Type 0) (front : List X) (x : X) (back : List X) → All P (front ++ x ∷ back) → P x
first_after P [] x back all = All-head P x back all
first_after P (y ∷ front) x back all = first_after P front x back (All-tail P y (front ++ x ∷ back) all)

module _ {X : Type 0} (n : ℕ) (xs : List X) (x : X) (more : List X) (next : drop n xs ≡ x ∷ more) where
  within : n < length xs
  within = omega (arith, ap length next, length-drop n xs)

  pub split_at : xs ≡ take n xs ++ x ∷ more
  split_at = sym (take-append-drop n xs) ∙ ap (λ l. take n xs ++ l) next

  pub take_next : take (n + 1) xs ≡ take n xs ++ x ∷ []
  take_next = take_more xs n x within ∙ ap (λ l. take n xs ++ get_or l 0 x ∷ []) (sym (drop_more xs n x within) ∙ next)

  pub drop_next : drop (n + 1) xs ≡ more
  drop_next = ap (drop 1) (sym (drop_more xs n x within) ∙ next)

-- where there are no more inputs, all outputs are done
pub all_done : (parts : List (List ℕ)) (inputs : List Input) (octets : List ℕ) (merged : AreMerged parts inputs octets) (n : ℕ) → length inputs ≤ n → outputs_spelling (take n merged.outputs) ≡ octets
all_done parts inputs octets merged n few =
    ap outputs_spelling (take_all n merged.outputs (omega (arith, few, AllZip-long HasSameWorker inputs merged.outputs merged.same))) ∙ sym merged.written

pub all_beyond : (parts : List (List ℕ)) (inputs : List Input) (octets : List ℕ) (merged : AreMerged parts inputs octets) (n m : ℕ) → length inputs ≤ n → n ≤ m → outputs_spelling (take m merged.outputs) ≡ outputs_spelling (take n merged.outputs)
all_beyond parts inputs octets merged n m few more = all_done parts inputs octets merged m (omega (arith, few, more)) ∙ sym (all_done parts inputs octets merged n few)

-- ---- the next output of the merged ones

module _ (parts : List (List ℕ)) (inputs : List Input) (octets : List ℕ) (merged : AreMerged parts inputs octets) (n : ℕ) (input : Input) (left : List Input) (next : drop n inputs ≡ input ∷ left) (owner : ℕ) (is : owner ≡ input.worker) (below : owner < length parts) (place : ℕ) (from : place ≡ length (outputs_spelling (outputs_of owner (take n merged.outputs)))) where
  abbrev earlier : List Output
  earlier = take n merged.outputs

  its : (output : Output) × (behind : List Output) × (drop n merged.outputs ≡ output ∷ behind) × (output.worker ≡ input.worker)
  its = next_of input left (drop n merged.outputs) (subst (λ l. AllZip HasSameWorker l (drop n merged.outputs)) next (drop_same n inputs merged.outputs merged.same))

  abbrev output : Output
  output = its.0

  abbrev behind : List Output
  behind = its.1

  own : output.worker ≡ owner
  own = its.3 ∙ sym is

  whole : merged.outputs ≡ earlier ++ output ∷ behind
  whole = split_at n merged.outputs output behind its.2

  one_more : take (n + 1) merged.outputs ≡ earlier ++ output ∷ []
  one_more = take_next n merged.outputs output behind its.2

  valid : IsOutput output
  valid = first_after IsOutput earlier output behind (subst (All IsOutput) whole merged.valid)

  later : List ℕ
  later = outputs_spelling (outputs_of owner behind)

  part_is : (d : List ℕ) → get_or parts owner d ≡ outputs_spelling (outputs_of owner earlier) ++ (output_spelling output ++ later)
  unfolding later
  part_is d =
      merged.each owner d below
      ∙ ap (λ l. outputs_spelling (outputs_of owner l)) whole
      ∙ ap outputs_spelling (filter-append (λ o. o.worker == owner) earlier (output ∷ behind) ∙ ap (λ l. outputs_of owner earlier ++ l) (own_here worker_of owner output behind own))
      ∙ flat_map-append output_spelling (outputs_of owner earlier) (output ∷ outputs_of owner behind)

  place_within : (d : List ℕ) → place ≤ length (get_or parts owner d)
  place_within d =
      omega (arith, from, ap length (part_is d), length-append (outputs_spelling (outputs_of owner earlier)) (output_spelling output ++ later))

  front : (d : List ℕ) → drop place (get_or parts owner d) ≡ output_spelling output ++ later
  front d =
      ap (drop place) (part_is d)
      ∙ drop_at (outputs_spelling (outputs_of owner earlier)) (output_spelling output ++ later) place (sym from)

  place_more : place + length (output_spelling output) ≡ length (outputs_spelling (outputs_of owner (take (n + 1) merged.outputs)))
  place_more =
      let mine = ap (λ l. outputs_spelling (outputs_of owner l)) one_more ∙ ap outputs_spelling (own_push worker_of owner earlier output own) ∙ spelling-push output_spelling (outputs_of owner earlier) output in
      omega (arith, from, ap length mine, length-append (outputs_spelling (outputs_of owner earlier)) (output_spelling output))

  place_other : (w : ℕ) → (owner ≡ w → ⊥) → length (outputs_spelling (outputs_of w earlier)) ≡ length (outputs_spelling (outputs_of w (take (n + 1) merged.outputs)))
  place_other w other =
      ap (λ l. length (outputs_spelling l)) (sym (ap (outputs_of w) one_more ∙ own_push_other worker_of w earlier output (λ o. other (sym own ∙ o))))

  spelled_more : outputs_spelling (take (n + 1) merged.outputs) ≡ outputs_spelling earlier ++ output_spelling output
  spelled_more = ap outputs_spelling one_more ∙ spelling-push output_spelling earlier output

  octets_are : octets ≡ outputs_spelling earlier ++ (output_spelling output ++ outputs_spelling behind)
  octets_are = merged.written ∙ ap outputs_spelling whole ∙ flat_map-append output_spelling earlier (output ∷ behind)

-- ---- over frames

-- so many frames are done, and the rest spells the others
pub record StandsAt (parts : List (List ℕ)) (inputs : List Input) (done : ℕ) (rest places : List ℕ) : Type 0 where
  pub spelled : AreSpelled rest (drop done inputs)
  pub lie : ArePlacesAt parts inputs done places
  pub room : length places ≡ 256

-- the frame at the front of the rest was passed over
abbrev pub Passes : List ℕ → ℕ → List ℕ → Type 0
Passes rest owner after =
    (length after < length rest) × ((input : Input) (back : List ℕ) → IsInput input → rest ≡ input_spelling input ++ back → (owner ≡ input.worker) × (after ≡ back))

passed : (left : List Input) (rest after : List ℕ) (owner : ℕ) → AreSpelled rest left → Passes rest owner after
    → (input : Input) × (more : List Input) × (left ≡ input ∷ more) × (owner ≡ input.worker) × IsInput input × AreSpelled after more
passed [] rest after owner (here, valid) (shorter, every) = absurd (omega (arith, shorter, ap length here))
passed (input ∷ more) rest after owner (here, valid) (shorter, every) =
    let fits = All-head IsInput input more valid in
    let one = every input (inputs_spelling more) fits here in
    (input, more, refl, one.0, fits, (one.1, All-tail IsInput input more valid))

-- the next frame is this worker's
pub record IsNext (outputs : List Part) (inputs : List Input) (n : ℕ) (rest places : List ℕ) (owner : ℕ) (after : List ℕ) : Type 0 where
  pub stands : StandsAt (parts_of outputs) inputs n rest places
  pub input : Input
  pub left : List Input
  pub next : drop n inputs ≡ input ∷ left
  pub is : owner ≡ input.worker
  pub fits : IsInput input
  pub spelled : AreSpelled after left
  pub below : owner < length outputs
  pub can : CanBeMerged (parts_of outputs) inputs

pub is_next : (outputs : List Part) (inputs : List Input) (n : ℕ) (rest places : List ℕ) (worker owner : ℕ) (after : List ℕ) → StandsAt (parts_of outputs) inputs n rest places → All (λ input. input.worker < length outputs) inputs → CanBeMerged (parts_of outputs) inputs
    → worker ≡ owner → Passes rest owner after → IsNext outputs inputs n rest places worker after
is_next outputs inputs n rest places worker owner after stands below can same passes =
    let (input, left, next, is, fits, spelled) = passed (drop n inputs) rest after owner stands.spelled passes in
    let mine = first_after (λ (i : Input). i.worker < length outputs) (take n inputs) input left (subst (All (λ (i : Input). i.worker < length outputs)) (split_at n inputs input left next) below) in
    record { stands = stands; input = input; left = left; next = next; is = same ∙ is; fits = fits; spelled = spelled; below = omega (arith, mine, same, is); can = can }

-- the next output stands at the front of the octets, and comes behind those that are done
pub record IsPiece (done done' all octets : List ℕ) : Type 0 where
  pub output : Output
  pub later : List ℕ
  pub others : List ℕ
  pub valid : IsOutput output
  pub front : octets ≡ output_spelling output ++ later
  pub more : done' ≡ done ++ output_spelling output
  pub whole : all ≡ done ++ (output_spelling output ++ others)

module _ (outputs : List Part) (inputs : List Input) (n : ℕ) (rest places : List ℕ) (owner : ℕ) (after : List ℕ) (at : IsNext outputs inputs n rest places owner after) where
  pub has_place : owner < length places
  has_place = omega (arith, at.stands.room, at.is, at.fits.worker_fits)

  below : owner < length (parts_of outputs)
  below = omega (arith, at.below, length-map outputs (λ (p : Part). p.octets))

  abbrev place : ℕ
  place = get_or places owner 0

  module _ (octets : List ℕ) (part : (d : Part) → octets ≡ (get_or outputs owner d).octets) where
    octets_is : octets ≡ get_or (parts_of outputs) owner []
    octets_is = let d = some_of outputs owner at.below in part d ∙ sym (get_or-map (λ (p : Part). p.octets) outputs owner d [] at.below)

    module _ (all : List ℕ) (merged : AreMerged (parts_of outputs) inputs all) where
      from : place ≡ length (outputs_spelling (outputs_of owner (take n merged.outputs)))
      from = at.stands.lie all merged owner has_place below

      abbrev its_output : Output
      its_output = (its (parts_of outputs) inputs all merged n at.input at.left at.next owner at.is below place from).0

      abbrev its_later : List ℕ
      its_later = later (parts_of outputs) inputs all merged n at.input at.left at.next owner at.is below place from

      its_valid : IsOutput its_output
      its_valid = valid (parts_of outputs) inputs all merged n at.input at.left at.next owner at.is below place from

      its_front : drop place octets ≡ output_spelling its_output ++ its_later
      its_front = ap (drop place) octets_is ∙ front (parts_of outputs) inputs all merged n at.input at.left at.next owner at.is below place from []

    pub frame_within : place ≤ length octets
    frame_within = omega (arith, ap length octets_is, place_within (parts_of outputs) inputs at.can.0 at.can.1 n at.input at.left at.next owner at.is below place (from at.can.0 at.can.1) [])

    pub frame_begins : BeginsWithFrame (drop place octets)
    frame_begins = record { output = its_output at.can.0 at.can.1; rest = its_later at.can.0 at.can.1; valid = its_valid at.can.0 at.can.1; is = its_front at.can.0 at.can.1 }

    place_at : (next : ℕ) (all : List ℕ) (merged : AreMerged (parts_of outputs) inputs all) → next ≡ place + length (output_spelling (its_output all merged))
        → (w : ℕ) → w < length places → w < length (parts_of outputs) → (b : Bool) → (owner == w) ≡ b → get_or (set places owner next) w 0 ≡ length (outputs_spelling (outputs_of w (take (n + 1) merged.outputs)))
    place_at next all merged is w lt lt' true mine =
        subst (λ v. get_or (set places owner next) v 0 ≡ length (outputs_spelling (outputs_of v (take (n + 1) merged.outputs)))) ((Decides-eqb owner w).0 mine)
        (get_or-set_same places owner next 0 has_place ∙ is ∙ place_more (parts_of outputs) inputs all merged n at.input at.left at.next owner at.is below place (from all merged))
    place_at next all merged is w lt lt' false mine =
        let other : owner ≡ w → ⊥ = λ own. false≢true (sym mine ∙ (Decides-eqb owner w).1 own) in
        get_or-set_other places owner w next 0 (λ own. other (sym own)) ∙ at.stands.lie all merged w lt lt'
        ∙ place_other (parts_of outputs) inputs all merged n at.input at.left at.next owner at.is below place (from all merged) w other

    pub stands_more : (next : ℕ) → ((output : Output) (back : List ℕ) → IsOutput output → drop place octets ≡ output_spelling output ++ back → next ≡ place + length (output_spelling output)) → StandsAt (parts_of outputs) inputs (n + 1) after (set places owner next)
    stands_more next put = record {
      spelled = subst (AreSpelled after) (sym (drop_next n inputs at.input at.left at.next)) at.spelled;
      lie = λ all merged w lt lt'.
          place_at next all merged (put (its_output all merged) (its_later all merged) (its_valid all merged) (its_front all merged)) w (omega (arith, lt, length-set places owner next)) lt' (owner == w) refl;
      room = length-set places owner next ∙ at.stands.room;
    }

    pub piece_next : (all : List ℕ) (merged : AreMerged (parts_of outputs) inputs all) → IsPiece (outputs_spelling (take n merged.outputs)) (outputs_spelling (take (n + 1) merged.outputs)) all (drop place octets)
    piece_next all merged = record {
      output = its_output all merged;
      later = its_later all merged;
      others = outputs_spelling (its (parts_of outputs) inputs all merged n at.input at.left at.next owner at.is below place (from all merged)).1;
      valid = its_valid all merged;
      front = its_front all merged;
      more = spelled_more (parts_of outputs) inputs all merged n at.input at.left at.next owner at.is below place (from all merged);
      whole = octets_are (parts_of outputs) inputs all merged n at.input at.left at.next owner at.is below place (from all merged);
    }

-- where no frame is passed over, all are done
pub none_next : (parts : List (List ℕ)) (inputs : List Input) (n : ℕ) (rest places : List ℕ) → StandsAt parts inputs n rest places → ((input : Input) (back : List ℕ) → IsInput input → rest ≡ input_spelling input ++ back → ⊥)
    → length inputs ≤ n
none_next parts inputs n rest places stands none = omega (arith, ap length (no_left (drop n inputs) rest stands.spelled none), length-drop n inputs)

-- ---- pieces that are gathered before they are written

pub piece_pushed : (before done done' piece buffer buffer' : List ℕ) → done' ≡ done ++ piece → done ≡ before ++ buffer → buffer' ≡ buffer ++ piece → done' ≡ before ++ buffer'
piece_pushed before done done' piece buffer buffer' more is pushed = more ∙ ap (λ l. l ++ piece) is ∙ append_assoc before buffer piece ∙ ap (λ l. before ++ l) (sym pushed)

-- of the octets that are done a part is gathered, and the others were written
pub record HasTold (done gathered : List ℕ) (before now : Option (List ℕ)) : Type 0 where
  pub gone : List ℕ
  pub so_far : gone ++ gathered ≡ done
  pub told : now ≡ append_told before gone

pub told_first : (done gathered : List ℕ) (before now : Option (List ℕ)) → gathered ≡ [] → now ≡ append_told before done → HasTold done gathered before now
told_first done gathered before now none is = record { gone = done; so_far = ap (λ l. done ++ l) none ∙ append-nil done; told = is }

pub told_more : (done done' piece gathered gathered' : List ℕ) (before now now' : Option (List ℕ)) → HasTold done gathered before now → done' ≡ done ++ piece → Gathers gathered piece gathered' now now' → HasTold done' gathered' before now'
told_more done done' piece gathered gathered' before now now' has is g = record {
  gone = has.gone ++ g.gone;
  so_far = append_assoc has.gone g.gone gathered' ∙ ap (λ l. has.gone ++ l) g.all ∙ sym (append_assoc has.gone gathered piece) ∙ ap (λ l. l ++ piece) has.so_far ∙ sym is;
  told = g.written ∙ ap (λ o. append_told o g.gone) has.told ∙ append_told-append_told before has.gone g.gone;
}

pub told_cut : (all done piece back gathered : List ℕ) (before now now' : Option (List ℕ)) → HasTold done gathered before now → all ≡ done ++ (piece ++ back) → IsPartWritten (gathered ++ piece) now now' → IsPartWritten all before now'
told_cut all done piece back gathered before now now' has is part =
    part_within all has.gone (gathered ++ piece) back before now now'
    (is ∙ ap (λ l. l ++ (piece ++ back)) (sym has.so_far) ∙ append_assoc has.gone gathered (piece ++ back) ∙ ap (λ l. has.gone ++ l) (sym (append_assoc gathered piece back)))
    has.told part

pub told_all : (done all gathered : List ℕ) (before now now' : Option (List ℕ)) → done ≡ all → HasTold done gathered before now → now' ≡ append_told now gathered → now' ≡ append_told before all
told_all done all gathered before now now' same has is =
    is ∙ ap (λ o. append_told o gathered) has.told ∙ append_told-append_told before has.gone gathered ∙ ap (append_told before) (has.so_far ∙ same)

pub told_end_cut : (done all gathered : List ℕ) (before now now' : Option (List ℕ)) → done ≡ all → HasTold done gathered before now → IsPartWritten gathered now now' → IsPartWritten all before now'
told_end_cut done all gathered before now now' same has part =
    part_within all has.gone gathered [] before now now' (sym (has.so_far ∙ same) ∙ ap (λ l. has.gone ++ l) (sym (append-nil gathered))) has.told part

-- ---- one worker

all_own : (inputs : List Input) (outputs : List Output) → AllZip HasSameWorker inputs outputs → All (λ input. input.worker < 1) inputs → outputs_of 0 outputs ≡ outputs
all_own [] [] same below = refl
all_own [] (output ∷ outputs) same below = absurd same
all_own (input ∷ inputs) [] same below = absurd same
all_own (input ∷ inputs) (output ∷ outputs) same below =
    let own : output.worker ≡ 0 = omega (arith, same.0, All-head (λ (i : Input). i.worker < 1) input inputs below) in
    own_here worker_of 0 output outputs own ∙ ap (λ l. output ∷ l) (all_own inputs outputs same.1 (All-tail (λ (i : Input). i.worker < 1) input inputs below))

module _ (outputs : List Part) (inputs : List Input) (one : length outputs ≡ 1) (below : All (λ input. input.worker < length outputs) inputs) (octets : List ℕ) (is : (d : Part) → octets ≡ (get_or outputs 0 d).octets) where
  first : octets ≡ get_or (parts_of outputs) 0 []
  first = let lt : 0 < length outputs = omega (arith, one) in let d = some_of outputs 0 lt in is d ∙ sym (get_or-map (λ (p : Part). p.octets) outputs 0 d [] lt)

  merged_by_one : (whole : List ℕ) → AreMerged (parts_of outputs) inputs whole → whole ≡ octets
  merged_by_one whole m =
      m.written ∙ ap outputs_spelling (sym (all_own inputs m.outputs m.same (subst (λ (n : ℕ). All (λ (i : Input). i.worker < n) inputs) one below)))
      ∙ sym (m.each 0 [] (omega (arith, one, length-map outputs (λ (p : Part). p.octets)))) ∙ sym first

  pub one_can : CanBeMerged (parts_of outputs) inputs → AreMerged (parts_of outputs) inputs octets
  one_can (whole, m) = subst (AreMerged (parts_of outputs) inputs) (merged_by_one whole m) m
