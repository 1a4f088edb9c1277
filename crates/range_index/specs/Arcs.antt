-- Lists of spans of a ring, in order of start, of which no two meet.
use Rattle.std.specs.Prelude.{◌≡◌, ◌≤◌, ℕ, length, Bool, false, true, not, if◌then◌else◌, List, [], ◌∷◌, filter}
use Rattle.std.specs.List.{All, AllPairs, AllWithin}
use Rattle.std.specs.Ordering.{is_lt, is_eq}
use Rattle.std.specs.declared.cmp.Ordering.{Ordering}
use Rattle.dname.specs.Arc.{arc_has, arcs_meet}

-- the span's arc has the key
abbrev pub span_has : {S K : Type 0} → (K → K → Ordering) → (S → K) → (S → K) → K → S → Bool
span_has cmp start end key span = arc_has cmp (start span) (end span) key

-- the arcs of the two spans don't meet
abbrev pub is_apart : {S K : Type 0} → (K → K → Ordering) → (S → K) → (S → K) → S → S → Bool
is_apart cmp start end span other = not (arcs_meet cmp (start span) (end span) (start other) (end other))

-- the span starts before the other
abbrev pub starts_before : {S K : Type 0} → (K → K → Ordering) → (S → K) → S → S → Bool
starts_before cmp start other span = is_lt (cmp (start span) (start other))

-- the span doesn't start at the key
abbrev pub starts_elsewhere : {S K : Type 0} → (K → K → Ordering) → (S → K) → K → S → Bool
starts_elsewhere cmp start key span = not (is_eq (cmp (start span) key))

-- keys have the same marks from each span's origin as from that one
abbrev pub AreOfOrigin : {S F K : Type 0} → (S → F) → (F → K → ℕ) → F → List S → Type 0
AreOfOrigin {S} {F} {K} origin mark one spans = All (λ span. (key : K) → mark (origin span) key ≡ mark one key) spans

-- spans in order of start, no two of which meet
pub record IsArcs {S K : Type 0} (cmp : K → K → Ordering) (start end : S → K) (spans : List S) : Type 0 where
  pub in_order : AllPairs (λ span other. starts_before cmp start other span ≡ true) spans
  pub apart : AllPairs (λ span other. is_apart cmp start end span other ≡ true) spans

-- the new one behind those at the front that pass the test
abbrev pub inserted : {S : Type 0} → (S → Bool) → S → List S → List S
inserted before new [] = new ∷ []
inserted before new (span ∷ spans) =
    if before span then span ∷ inserted before new spans else new ∷ span ∷ spans

-- the spans that don't meet the new one, and the new one, in order of start
abbrev pub arcs_with : {S K : Type 0} → (K → K → Ordering) → (S → K) → (S → K) → S → List S → List S
arcs_with cmp start end new spans =
    inserted (starts_before cmp start new) new (filter (is_apart cmp start end new) spans)

-- those that fail the test are at the places from one up to another, and from `last` on
pub record FailInRuns {S : Type 0} (p : S → Bool) (spans : List S) (from to last : ℕ) : Type 0 where
  pub order : from ≤ to
  pub between : to ≤ last
  pub in_range : last ≤ length spans
  pub before_from : AllWithin (λ span. p span ≡ true) spans 0 from
  pub up_to : AllWithin (λ span. p span ≡ false) spans from to
  pub before_last : AllWithin (λ span. p span ≡ true) spans to last
  pub from_last : AllWithin (λ span. p span ≡ false) spans last (length spans)
