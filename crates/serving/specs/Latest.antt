-- The table by what its slots took last.
use Rattle.std.specs.Prelude.{◌≡◌, ◌<◌, ℕ, Bool, false, not, ◌&&◌, if◌then◌else◌, List, [], ◌∷◌, length, get_or, Some}
use Rattle.serving.specs.declared.latest.Latest.{Latest}
use Rattle.serving.specs.Pending.{Slot, freed, is_late}

-- the slot with the entry that it took last
abbrev pub taken_slot : ℕ → Latest → Slot
taken_slot sent latest = record {
  turn = latest.turn;
  entry = Some (record { client = latest.client; question = latest.question; sent = sent });
}

-- a slot that isn't taken was freed of that entry
abbrev pub slot_of : Bool → ℕ → Latest → Slot
slot_of taken sent latest =
    if taken then taken_slot sent latest else freed (taken_slot sent latest)

-- the slots side by side
abbrev pub slots_of : List Bool → List ℕ → List Latest → List Slot
slots_of [] sent latest = []
slots_of (taken ∷ marks) [] latest = []
slots_of (taken ∷ marks) (sent ∷ moments) [] = []
slots_of (taken ∷ marks) (sent ∷ moments) (last ∷ latest) =
    slot_of taken sent last ∷ slots_of marks moments latest

-- there are 256 slots
pub record HasAllSlots (taken : List Bool) (sent : List ℕ) (latest : List Latest) : Type 0 where
  pub marks : length taken ≡ 256
  pub moments : length sent ≡ 256
  pub entries : length latest ≡ 256

-- a slot is taken after that if its entry isn't late
abbrev pub AreKept : ℕ → List Bool → List ℕ → List Bool → Type 0
AreKept now old sent new =
    (k : ℕ) → k < length old → get_or new k false ≡ (get_or old k false && not (is_late now (get_or sent k 0)))
