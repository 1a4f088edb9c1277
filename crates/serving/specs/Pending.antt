-- The table of the queries that wait for the upstream, and what an event does.
use Rattle.std.specs.Prelude.{◌==◌, ◌&&◌, ℕ, ◌+◌, ◌-◌, ◌*◌, ◌/◌, ◌%◌, ◌^◌, Bool, false, nat_le, if◌then◌else◌}
use Rattle.std.specs.Prelude.{List, map, replicate, slice_get, slice_set}
use Rattle.std.specs.Prelude.{Option, Some, None, is_none, option_and_then}
use Rattle.std.specs.List.{position}
use Rattle.std.specs.Option.{option_map_or}
use Rattle.dname.specs.Name.{Label}
use Rattle.dname.specs.Tests.{same_name}
use Rattle.dnswire.specs.declared.question.Question.{Question}
use Rattle.serving.specs.declared.event.Event.{Event}
use Rattle.serving.specs.declared.event.Event.TheVariants.{Ask, Came}
use Rattle.serving.specs.declared.action.Action.{Action}
use Rattle.serving.specs.declared.action.Action.TheVariants.{Send, ServFail, Relay, Ignored}

-- a query that waits: whose it is, what it asks, and when it was sent, in seconds
pub record Entry : Type 0 where
  pub client : ℕ
  pub question : Question
  pub sent : ℕ

abbrev pub entry_of : ℕ → Question → ℕ → Entry
entry_of client question sent = record { client = client; question = question; sent = sent }

-- a slot of the table: its turn, from 0 to 255, and its entry, if it is taken
pub record Slot : Type 0 where
  pub turn : ℕ
  pub entry : Option Entry

-- 256 free slots at turn 0
unfoldable pub empty_table : List Slot
empty_table = replicate 256 (record { turn = 0; entry = None })

-- the slot without its entry, at its next turn
abbrev pub freed : Slot → Slot
freed slot = record { turn = (slot.turn + 1) % 256; entry = None }

-- whether 5 or more seconds have passed, by a clock of 32 bits
abbrev pub is_late : ℕ → ℕ → Bool
is_late now sent = nat_le 5 ((now + (2 ^ 32 - sent)) % 2 ^ 32)

-- the slot at a moment: its entry is gone if it is late
abbrev pub slot_at : ℕ → Slot → Slot
slot_at now slot =
    if option_map_or (λ entry. is_late now entry.sent) slot.entry false then freed slot else slot

-- the table at a moment, without late entries
abbrev pub table_at : ℕ → List Slot → List Slot
table_at now table = map (slot_at now) table

-- the least free slot, if there is one
abbrev pub least_free : List Slot → Option ℕ
least_free table = position (λ slot. is_none slot.entry) table

abbrev pub turn_at : List Slot → ℕ → ℕ
turn_at table place = option_map_or (λ slot. slot.turn) (slice_get table place) 0

-- the ID is 256 times the slot's turn, and the slot. So IDs come in order; RFC 5452, section 9.2, asks for random ones
-- on a network, and here the upstream is a port of the same host.
abbrev pub sent_from : List Slot → Option ℕ → Action
sent_from table None = ServFail
sent_from table (Some place) = Send (256 * turn_at table place + place)

-- the slot takes the entry, and keeps its turn
abbrev pub with_entry : List Slot → Option ℕ → Entry → List Slot
with_entry table None entry = table
with_entry table (Some place) entry =
    slice_set table place (record { turn = turn_at table place; entry = Some entry })

-- whether the question is of this name, type and class
abbrev pub asks : List Label → ℕ → ℕ → Question → Bool
asks name qtype qclass question =
    same_name question.name name && (question.qtype == qtype) && (question.qclass == qclass)

-- the slot's entry, where it is taken at this turn by such a question (RFC 5452, section 9.1)
abbrev pub entry_in : Slot → ℕ → List Label → ℕ → ℕ → Option Entry
entry_in slot turn name qtype qclass =
    option_and_then
    (λ entry. if (slot.turn == turn) && asks name qtype qclass entry.question then Some entry else None)
    slot.entry

-- the entry that an answer fits: that of the slot which its ID and question name
abbrev pub entry_for : List Slot → ℕ → List Label → ℕ → ℕ → Option Entry
entry_for table id name qtype qclass =
    option_and_then (λ slot. entry_in slot (id / 256) name qtype qclass) (slice_get table (id % 256))

abbrev pub relayed_of : Option Entry → Action
relayed_of None = Ignored
relayed_of (Some entry) = Relay entry.client entry.question

-- the slot is freed, if an entry fits
abbrev pub without_entry : List Slot → ℕ → Option Entry → List Slot
without_entry table place None = table
without_entry table place (Some entry) =
    option_map_or (λ slot. slice_set table place (freed slot)) (slice_get table place) table

-- what is done
abbrev pub action_of : List Slot → Event → Action
action_of table (Ask client question now) =
    let kept = table_at now table in sent_from kept (least_free kept)
action_of table (Came id name qtype qclass) = relayed_of (entry_for table id name.now qtype qclass)

-- what is left of the table
abbrev pub table_after : List Slot → Event → List Slot
table_after table (Ask client question now) =
    let kept = table_at now table in
    with_entry kept (least_free kept) (entry_of client question.now now)
table_after table (Came id name qtype qclass) =
    without_entry table (id % 256) (entry_for table id name.now qtype qclass)
