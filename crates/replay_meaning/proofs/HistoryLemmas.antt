-- Histories of one frame after the other: how they grow, and that one worker's is the only one.
use Rattle.std.proofs.Common.{◌≡◌, ◌≢◌, ℕ, zero, suc, ◌+◌, ◌<◌, ◌≤◌, Bool, true, false, ◌&&◌, ◌==◌, cond, List, [], ◌∷◌, length, refl, sym, ◌∙◌, ap, arith}
use Rattle.std.specs.List.{All, AllZip, AllPairs, count_by}
use Rattle.std.proofs.lemmas.Bool.{false≢true, ne_eqb}
use Rattle.std.proofs.lemmas.Bool.Decides.{Decides-eqb}
use Rattle.std.proofs.lemmas.List.Elements.{All-nil, All-cons, All-head, All-tail, All-weaker}
use Rattle.std.proofs.lemmas.List.Kept.{AllPairs-cons}
use Rattle.std.proofs.lemmas.List.Sums.{sum_by-cons}
use Rattle.denial_records.specs.declared.batch.Batch.{Batch}
use Rattle.replay_meaning.specs.Frame.{Input}
use Rattle.replay_meaning.specs.OutFrame.{Output}
use Rattle.replay_meaning.specs.Fits.{Rule, IsFor, IsInOrder, Fits, is_call, is_placed, places}

-- ---- counts

pub count_of : {X : Type 0} (p : X → Bool) (x : X) (xs : List X) (b : Bool) → p x ≡ b → count_by p (x ∷ xs) ≡ cond b 1 0 + count_by p xs
count_of p x xs b is = sum_by-cons (λ y. cond (p y) 1 0) x xs ∙ ap (λ c. cond c 1 0 + count_by p xs) is

pub count_no : {X : Type 0} (p : X → Bool) (x : X) (xs : List X) → p x ≡ false → count_by p (x ∷ xs) ≡ count_by p xs
count_no p x xs is = omega (arith, count_of p x xs false is)

count_none : {X : Type 0} (p : X → Bool) (xs : List X) → All (λ x. p x ≡ false) xs → count_by p xs ≡ 0
count_none p [] none = refl
count_none p (x ∷ xs) none = count_no p x xs (All-head (λ y. p y ≡ false) x xs none) ∙ count_none p xs (All-tail (λ y. p y ≡ false) x xs none)

-- an output places no batch of a version where it places none, or has another
pub places_no : (version : ℕ) (output : Output) → (is_placed output.kind ≡ true → output.version ≡ version → ⊥) → places version output ≡ false
places_no version output other = by (is_placed output.kind) refl
  where
    by : (b : Bool) → is_placed output.kind ≡ b → places version output ≡ false
    by true is = ap (λ b. b && (output.version == version)) is ∙ ne_eqb output.version version (other is)
    by false is = ap (λ b. b && (output.version == version)) is

-- ---- outputs from a version on

-- a call is of the version or a later one, and one that places a batch makes a later one
pub record IsFrom (before : ℕ) (output : Output) : Type 0 where
  pub call : is_call output.kind ≡ true → before ≤ output.version
  pub placed : is_placed output.kind ≡ true → before < output.version

-- the outputs go on from the version, before which so many of the batches were placed
pub record GoesOn (rule : Rule) (workers : ℕ) (placed : List Batch) (before : ℕ) (inputs : List Input) (outputs : List Output) : Type 0 where
  pub each : AllZip (IsFor rule workers placed) inputs outputs
  pub versions : (version : ℕ) → before < version → version ≤ length placed → count_by (places version) outputs ≡ 1
  pub order : AllPairs IsInOrder outputs
  pub from : All (IsFrom before) outputs

pub none_from : (before version : ℕ) (outputs : List Output) → version ≤ before → All (IsFrom before) outputs → count_by (places version) outputs ≡ 0
none_from before version outputs within from =
    count_none (places version) outputs
    (All-weaker (IsFrom before) (λ output. places version output ≡ false) (λ output f. places_no version output (λ placed is. omega (arith, f.placed placed, is, within))) outputs from)

from_earlier : (before after : ℕ) (outputs : List Output) → before ≤ after → All (IsFrom after) outputs → All (IsFrom before) outputs
from_earlier before after outputs within =
    All-weaker (IsFrom after) (IsFrom before) (λ output f. record { call = λ call. omega (arith, f.call call); placed = λ placed. omega (arith, f.placed placed) }) outputs

-- ---- one frame more at the front

-- the output stands between the versions: it makes no call, or one that goes by the version, or makes the next one
pub data IsTurn (before after : ℕ) (output : Output) : Type 0 where
  no_call : is_call output.kind ≡ false → is_placed output.kind ≡ false → after ≡ before → IsTurn before after output
  reads : is_placed output.kind ≡ false → output.version ≡ before → after ≡ before → IsTurn before after output
  makes : is_placed output.kind ≡ true → output.version ≡ before + 1 → after ≡ before + 1 → IsTurn before after output

pub turn_rises : (before after : ℕ) (output : Output) → IsTurn before after output → before ≤ after
turn_rises before after output (IsTurn.no_call call placed is) = omega (arith, is)
turn_rises before after output (IsTurn.reads placed version is) = omega (arith, is)
turn_rises before after output (IsTurn.makes placed version is) = omega (arith, is)

turn_from : (before after : ℕ) (output : Output) → IsTurn before after output → IsFrom before output
turn_from before after output (IsTurn.no_call call placed is) = record { call = λ yes'. absurd (false≢true (sym call ∙ yes')); placed = λ yes'. absurd (false≢true (sym placed ∙ yes')) }
turn_from before after output (IsTurn.reads placed version is) = record { call = λ yes'. omega (arith, version); placed = λ yes'. absurd (false≢true (sym placed ∙ yes')) }
turn_from before after output (IsTurn.makes placed version is) = record { call = λ yes'. omega (arith, version); placed = λ yes'. omega (arith, version) }

turn_order : (before after : ℕ) (output later : Output) → IsTurn before after output → IsFrom after later → IsInOrder output later
turn_order before after output later (IsTurn.no_call call placed is) from = record { never_back = λ same first second. absurd (false≢true (sym call ∙ first)); rises = λ same first second. absurd (false≢true (sym call ∙ first)) }
turn_order before after output later (IsTurn.reads placed version is) from = record { never_back = λ same first second. omega (arith, version, is, from.call second); rises = λ same first second. omega (arith, version, is, from.placed second) }
turn_order before after output later (IsTurn.makes placed version is) from = record { never_back = λ same first second. omega (arith, version, is, from.call second); rises = λ same first second. omega (arith, version, is, from.placed second) }

turn_counts : (before after limit version : ℕ) (output : Output) (outputs : List Output) → IsTurn before after output → All (IsFrom after) outputs → before < version → version ≤ limit → ((v : ℕ) → after < v → v ≤ limit → count_by (places v) outputs ≡ 1) → count_by (places version) (output ∷ outputs) ≡ 1
turn_counts before after limit version output outputs (IsTurn.no_call call placed is) from above within others =
    count_no (places version) output outputs (places_no version output (λ yes' same. absurd (false≢true (sym placed ∙ yes')))) ∙ others version (omega (arith, is, above)) within
turn_counts before after limit version output outputs (IsTurn.reads placed version_is is) from above within others =
    count_no (places version) output outputs (places_no version output (λ yes' same. absurd (false≢true (sym placed ∙ yes')))) ∙ others version (omega (arith, is, above)) within
turn_counts before after limit version output outputs (IsTurn.makes placed version_is is) from above within others = by (output.version == version) refl
  where
    test : places version output ≡ (output.version == version)
    test = ap (λ b. b && (output.version == version)) placed

    by : (b : Bool) → (output.version == version) ≡ b → count_by (places version) (output ∷ outputs) ≡ 1
    by true same =
        let equal : output.version ≡ version = (Decides-eqb output.version version).0 same in
        count_of (places version) output outputs true (test ∙ same) ∙ ap (λ n. 1 + n) (none_from after version outputs (omega (arith, equal, version_is, is)) from)
    by false other =
        let apart : output.version ≢ version = λ equal. false≢true (sym other ∙ (Decides-eqb output.version version).1 equal) in
        count_no (places version) output outputs (test ∙ other) ∙ others version (omega (arith, apart, version_is, is, above)) within

pub goes_none : (rule : Rule) (workers : ℕ) (placed : List Batch) → GoesOn rule workers placed (length placed) [] []
goes_none rule workers placed = record {
  each = tt;
  versions = λ version above within. absurd (omega (arith, above, within));
  order = λ i j d before within. absurd (omega (arith, within));
  from = All-nil (IsFrom (length placed));
}

pub goes_more : (rule : Rule) (workers : ℕ) (placed : List Batch) (before after : ℕ) (input : Input) (output : Output) (inputs : List Input) (outputs : List Output) → IsFor rule workers placed input output → IsTurn before after output → GoesOn rule workers placed after inputs outputs → GoesOn rule workers placed before (input ∷ inputs) (output ∷ outputs)
goes_more rule workers placed before after input output inputs outputs for' turn on = record {
  each = (for', on.each);
  versions = λ version above within. turn_counts before after (length placed) version output outputs turn on.from above within on.versions;
  order = AllPairs-cons IsInOrder output outputs (All-weaker (IsFrom after) (IsInOrder output) (λ later. turn_order before after output later turn) outputs on.from) on.order;
  from = All-cons (IsFrom before) output outputs (turn_from before after output turn) (from_earlier before after outputs (turn_rises before after output turn) on.from);
}

pub fits_whole : (rule : Rule) (workers : ℕ) (placed : List Batch) (inputs : List Input) (outputs : List Output) → GoesOn rule workers placed 0 inputs outputs → Fits rule inputs workers placed outputs
fits_whole rule workers placed inputs outputs on = record { each = on.each; versions = λ version least. on.versions version (omega (arith, least)); order = on.order }
