-- What events do to the table of the questions that wait, and who is replied to.
use Rattle.std.specs.Prelude.{ℕ, ◌&&◌, not, Bool, false, nat_le, if◌then◌else◌, List, [], ◌∷◌, ◌++◌, get_or, set, drop, Option, Some, None, is_none}
use Rattle.std.specs.List.{list_all, position, position_or_len}
use Rattle.dnswire.specs.declared.question.Question.{Question}
use Rattle.waiting_table.specs.declared.client.Client.{Client}
use Rattle.waiting_table.specs.declared.place.Place.{Place}
use Rattle.waiting_table.specs.declared.place.Place.TheVariants.{Joins, Fills, Replaces}
use Rattle.waiting_table.specs.Waiting.{Slot, again, asked_by_stream, clients_in, clients_of, first_asked, is_due, is_late, slot_at, takes, with_client}

-- ---- a query that the cache doesn't answer

abbrev pub since_of : Slot → ℕ
since_of None = 0
since_of (Some waiting) = waiting.since

-- no slot's question waits for longer
abbrev pub is_oldest : List Slot → Slot → Bool
is_oldest table slot = list_all (λ other. nat_le (since_of slot) (since_of other)) table

-- of the questions that wait longest the one in the least slot
abbrev pub oldest : List Slot → ℕ
oldest table = position_or_len (is_oldest table) table

-- the first question that takes another client; else the least free slot; else the slot of the oldest question
abbrev pub place_of : Option ℕ → Option ℕ → ℕ → Place
place_of (Some slot) free last = Joins slot
place_of None (Some slot) last = Fills slot
place_of None None last = Replaces last

abbrev pub place_for : Question → List Slot → Place
place_for question table =
    place_of (position (takes question) table) (position (λ slot. is_none slot) table) (oldest table)

abbrev pub place_slot : Place → ℕ
place_slot (Joins slot) = slot
place_slot (Fills slot) = slot
place_slot (Replaces slot) = slot

-- the client joins, or its question is asked; a full table gives up the oldest question for it
abbrev pub placed : ℕ → ℕ → Client → List Slot → Place → List Slot
placed now id client table (Joins slot) =
    set table slot (with_client client (slot_at table slot))
placed now id client table (Fills slot) = set table slot (Some (first_asked now id client))
placed now id client table (Replaces slot) = set table slot (Some (first_asked now id client))

abbrev pub given_up : List Slot → Place → List Client
given_up table (Joins slot) = []
given_up table (Fills slot) = []
given_up table (Replaces slot) = clients_in (slot_at table slot)

-- ---- an answer

abbrev pub freed : ℕ → List Slot → List Slot
freed slot table = set table slot None

-- ---- a tick

-- a late question is given up, and one that is due is asked again, with this ID
abbrev pub ticked_slot : ℕ → ℕ → Slot → Slot
ticked_slot now id None = None
ticked_slot now id (Some waiting) =
    if is_late now waiting then None
    else (if is_due now waiting then Some (again now id waiting) else Some waiting)

abbrev pub late_in : ℕ → Slot → List Client
late_in now None = []
late_in now (Some waiting) = if is_late now waiting then clients_of waiting else []

abbrev pub is_late_in : ℕ → Slot → Bool
is_late_in now None = false
is_late_in now (Some waiting) = is_late now waiting

abbrev pub is_due_in : ℕ → Slot → Bool
is_due_in now None = false
is_due_in now (Some waiting) = is_due now waiting

-- a tick does nothing to the slot
abbrev pub is_quiet : ℕ → Slot → Bool
is_quiet now slot = not (is_late_in now slot) && not (is_due_in now slot)

abbrev pub again_in : ℕ → ℕ → Slot → Slot
again_in now id None = None
again_in now id (Some waiting) = Some (again now id waiting)

-- the IDs are those of the slots, in order
abbrev pub ticked : ℕ → List ℕ → List Slot → List Slot
ticked now ids [] = []
ticked now ids (slot ∷ more) = ticked_slot now (get_or ids 0 0) slot ∷ ticked now (drop 1 ids) more

abbrev pub late_clients : ℕ → List Slot → List Client
late_clients now [] = []
late_clients now (slot ∷ more) = late_in now slot ++ late_clients now more

-- ---- any event

-- a query that the cache doesn't answer, with the ID that is drawn for it; an answer to the question of a slot; word that its answer is
-- to be had by a stream, with the ID that is drawn for that; a tick, with the IDs that are drawn for its slots
pub data Step : Type 0 where
  Asked : (now : ℕ) (id : ℕ) (client : Client) → Step
  Answered : (slot : ℕ) → Step
  AskedByStream : (slot : ℕ) (id : ℕ) → Step
  Ticked : (now : ℕ) (ids : List ℕ) → Step

abbrev pub after_one : Step → List Slot → List Slot
after_one (Asked now id client) table =
    placed now id client table (place_for client.question table)
after_one (Answered slot) table = freed slot table
after_one (AskedByStream slot id) table =
    set table slot (asked_by_stream id (slot_at table slot))
after_one (Ticked now ids) table = ticked now ids table

-- who gets a reply: an answer, or word of a failed server
abbrev pub replies_of : Step → List Slot → List Client
replies_of (Asked now id client) table = given_up table (place_for client.question table)
replies_of (Answered slot) table = clients_in (slot_at table slot)
replies_of (AskedByStream slot id) table = []
replies_of (Ticked now ids) table = late_clients now table
