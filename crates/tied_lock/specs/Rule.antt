-- No public clause cites this module: the rule of the table, and what its steps tell. A seat's view is the key.
use Rattle.std.specs.Prelude.{◌≡◌, ◌≢◌, ℕ, ◌∷◌, length, slice_index, Option, Some}
use mathlib.Core.Option.{some}
use lib.ListN.{get_elem?}
use Rattle.atomic_table.specs.Table.{State, Me, Step}

-- the value is in the slot, and is tied
abbrev pub IsIn : {T K : Type 0} → (T → Type 0) → State (Option T) K → Type 0
IsIn {T} tied s = (x : T) × (get_elem? s.homes 0 ≡ some (some (Some x))) × tied x

module _ {T K : Type 0} (tied : T → Type 0) (key : K) where
  -- while the word is 0 the value is in the slot
  pub record AtHomeWhileFree (s : State (Option T) K) : Type 0 where
    pub wide : length s.words ≡ 1
    pub deep : length s.homes ≡ 1
    pub free : slice_index s.words 0 ≡ 0 → IsIn tied s
    pub keyed : (j : ℕ) (v : K) → get_elem? s.views j ≡ some v → v ≡ key

abbrev pub Holder : Type 0 → Type 0 → Type 0
Holder T K = Me (Option T) K

module _ {T K : Type 0} where
  abbrev pub sat : Step T → Me T K → ℕ → Me T K → Type 0
  sat st m r m' = m' ≡ m

  -- the value was taken where the word was 0
  abbrev pub grabbed : (K → T → Type 0) → Step (Option T) → Holder T K → ℕ → Holder T K → Type 0
  grabbed ties st m r m' =
      (r ≡ 0 → (x : T) × (m'.1 ≡ (0, Some x) ∷ m.1) × ties m.0 x) × (r ≢ 0 → m' ≡ m)
