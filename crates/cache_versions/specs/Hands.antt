-- Places that are dealt out, each to one hand.
use Rattle.std.specs.Prelude.{◌≡◌, ◌≢◌, ℕ, ◌+◌, ◌<◌, ◌≤◌, ◌==◌, List, [], ◌∷◌, ◌++◌}
use Rattle.std.specs.Prelude.{length, slice_index}
use Rattle.std.specs.List.{count_by, sum_by}
use mathlib.Core.Option.{some}
use lib.ListN.{get_elem?}
use Rattle.atomic_table.specs.Table.{State, Me, Step}
use Rattle.cache_versions.specs.declared.hand.InHand.{InHand}

-- how often the place stands among the places
abbrev pub times : ℕ → List ℕ → ℕ
times place places = count_by (λ p. p == place) places

-- once where the place is below n, and else not at all
abbrev pub OnceBelow : ℕ → ℕ → ℕ → Type 0
OnceBelow n place count = (place < n → count ≡ 1) × (n ≤ place → count ≡ 0)

-- the places are those below n, each once, in some order
abbrev pub AreAllBelow : ℕ → List ℕ → Type 0
AreAllBelow n places = (place : ℕ) → OnceBelow n place (times place places)

abbrev pub in_hand : ℕ → List ℕ → InHand
in_hand n places = record { hands = n; places = places }

abbrev pub both_in_hand : InHand → InHand → InHand
both_in_hand h i = in_hand (h.hands + i.hands) (h.places ++ i.places)

-- how many hands are stood for
abbrev pub all_hands : List InHand → ℕ
all_hands views = sum_by (λ h. h.hands) views

-- how often the place is in any hand
abbrev pub all_times : ℕ → List InHand → ℕ
all_times place views = sum_by (λ h. times place h.places) views

-- there are so many hands. The places below the word are dealt out, each once, and what stands for
-- no hand has none
pub record DealtOnce (hands : ℕ) (s : State (Unit {0}) InHand) : Type 0 where
  pub wide : length s.words ≡ 1
  pub all : all_hands s.views ≡ hands
  pub each : (place : ℕ) → OnceBelow (slice_index s.words 0) place (all_times place s.views)
  pub idle : (j : ℕ) (h : InHand) → get_elem? s.views j ≡ some h → h.hands ≡ 0 → h.places ≡ []

abbrev pub Holder : Type 0
Holder = Me (Unit {0}) InHand

abbrev pub with_place : Holder → ℕ → Holder
with_place m place = (in_hand m.0.hands (m.0.places ++ place ∷ []), m.1)

-- the place was dealt to the hand, or it was not the next one
abbrev pub Deals : Step (Unit {0}) → Holder → ℕ → Holder → Type 0
Deals s m found m' = (found ≡ s.first → m' ≡ with_place m s.first) × (found ≢ s.first → m' ≡ m)

abbrev pub Comes : Step (Unit {0}) → Holder → ℕ → Holder → Type 0
Comes s m found m' = m' ≡ (in_hand 0 [], [])
