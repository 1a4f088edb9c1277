-- No public clause cites this module. What is kept beside the slots, so that a pass over all reads a few octets of each.
use Rattle.std.specs.Prelude.{◌≡◌, ℕ, ◌+◌, ◌*◌, ◌%◌, ◌^◌, ◌<◌, ◌≤◌, Bool, true, false, List, [], ◌∷◌, length, map, get_or, Option, Some, None, is_some}
use Rattle.dname.specs.Name.{Label, wire_of}
use Rattle.dnswire.specs.declared.question.Question.{Question}
use Rattle.waiting_table.specs.declared.guest.Guest.{Guest}
use Rattle.arrivals.specs.declared.carrier.Carrier.{Carrier}
use Rattle.waiting_table.specs.declared.client.Client.{Client}
use Rattle.waiting_table.specs.declared.index.Index.{Index}
use Rattle.waiting_table.specs.declared.waiting_table.TheConstants.{SLOTS, CLIENTS, PATIENCE, STEP}
use Rattle.waiting_table.specs.Waiting.{Slot, Waiting, may_ask_again, slot_at}

-- ---- a client that joined

-- what it asked is what the first client asked, but for what an answer takes from its own query
abbrev pub client_by : Question → Guest → Client
client_by asked guest = record {
  number = guest.number;
  carrier = guest.carrier;
  question = record asked {
    id = guest.id;
    rd = guest.rd;
    ad = guest.ad;
    asked = guest.asked;
    edns = guest.edns;
  };
}

-- ---- marks

abbrev pub mark_from : ℕ → List ℕ → ℕ
mark_from mark [] = mark
mark_from mark (octet ∷ more) = mark_from ((mark * 31 + octet) % 2 ^ 32) more

-- a number that equal questions have in common
abbrev pub mark_of : List Label → ℕ → ℕ
mark_of name qtype = mark_from qtype (wire_of name)

-- ---- slots

abbrev pub index_of : List Bool → List ℕ → List ℕ → List ℕ → Index
index_of taken marks since until =
    record { taken = taken; marks = marks; since = since; until = until }

-- before that moment a tick does nothing to the question
abbrev pub Rests : ℕ → Waiting → Type 0
Rests until waiting =
    (until ≤ waiting.since + PATIENCE)
    × (may_ask_again waiting ≡ true → until ≤ waiting.last + STEP * waiting.times)

abbrev pub ShowsWaiting : ℕ → ℕ → ℕ → Slot → Type 0
ShowsWaiting mark since until None = Unit {0}
ShowsWaiting mark since until (Some waiting) =
    (mark ≡ mark_of waiting.asker.question.name waiting.asker.question.qtype)
    × (since ≡ waiting.since) × Rests until waiting

abbrev pub Shows : Bool → ℕ → ℕ → ℕ → Slot → Type 0
Shows taken mark since until slot =
    (taken ≡ is_some slot) × ShowsWaiting mark since until slot

-- the index is that of these slots
pub record IsIndexOf (index : Index) (table : List Slot) : Type 0 where
  pub all : length table ≡ SLOTS
  pub taken_all : length index.taken ≡ SLOTS
  pub marks_all : length index.marks ≡ SLOTS
  pub since_all : length index.since ≡ SLOTS
  pub until_all : length index.until ≡ SLOTS
  pub each :
      (k : ℕ) → k < SLOTS
      → Shows (get_or index.taken k false) (get_or index.marks k 0) (get_or index.since k 0)
      (get_or index.until k 0) (slot_at table k)

-- ---- what a pass finds

-- the first slot that is free, if one is
abbrev pub IsFirstFree : List Bool → Option ℕ → Type 0
IsFirstFree taken (Some slot) =
    (slot < SLOTS) × (get_or taken slot false ≡ false)
    × ((k : ℕ) → k < slot → get_or taken k false ≡ true)
IsFirstFree taken None = (k : ℕ) → k < SLOTS → get_or taken k false ≡ true

-- the first slot whose moment is the least
pub record IsLeast (since : List ℕ) (slot : ℕ) : Type 0 where
  pub within : slot < SLOTS
  pub least : (k : ℕ) → k < SLOTS → get_or since slot 0 ≤ get_or since k 0
  pub first : (k : ℕ) → k < slot → get_or since slot 0 < get_or since k 0

-- ---- a slot's fields

abbrev pub slot_of : Bool → Client → List Guest → ℕ → ℕ → ℕ → Carrier → ℕ → Slot
slot_of false asker joined since last times by id = None
slot_of true asker joined since last times by id = Some (record {
  asker = asker;
  joined = map (client_by asker.question) joined;
  since = since;
  last = last;
  times = times;
  by = by;
  id = id;
})

-- there is room for all clients but the first
pub record HasRoom (joined : List Guest) (room : ℕ) : Type 0 where
  pub few : length joined < CLIENTS
  pub all : CLIENTS ≤ room + 1
