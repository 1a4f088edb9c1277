-- What holds of every run of events.
use Rattle.std.specs.Prelude.{◌==◌, ◌&&◌, if◌then◌else◌, Bool, ℕ, ◌+◌, ◌<◌, ◌≤◌, ◌≡◌, true, false, nat_le, List, [], ◌∷◌, ◌++◌, IfSome}
use Rattle.std.specs.List.{All, count_by, sum_by}
use Rattle.arrivals.specs.declared.carrier.Carrier.TheVariants.{Datagram}
use Rattle.dnswire.specs.declared.question.Question.{Question}
use Rattle.waiting_table.specs.declared.client.Client.{Client}
use Rattle.waiting_table.specs.declared.place.Place.{Place}
use Rattle.waiting_table.specs.declared.place.Place.TheVariants.{Joins, Fills, Replaces}
use Rattle.waiting_table.specs.declared.waiting_table.TheConstants.{PATIENCE}
use Rattle.waiting_table.specs.Waiting.{Slot, Waiting, clients_in, empty_table, is_due, may_ask_by_stream, slot_at, takes}
use Rattle.waiting_table.specs.Steps.{Step, Asked, Answered, AskedByStream, Ticked, after_one, place_for, replies_of, ticked}

-- ---- a run

abbrev pub after : List Step → List Slot → List Slot
after [] table = table
after (step ∷ more) table = after more (after_one step table)

-- who is replied to, in order
abbrev pub replies_in : List Step → List Slot → List Client
replies_in [] table = []
replies_in (step ∷ more) table = replies_of step table ++ replies_in more (after_one step table)

-- whose query the event is
abbrev pub asked_by : Step → List Client
asked_by (Asked now id client) = client ∷ []
asked_by (Answered slot) = []
asked_by (AskedByStream slot id) = []
asked_by (Ticked now ids) = []

-- ---- a client, by its number

-- how many of the clients have the number
abbrev pub of_number : ℕ → List Client → ℕ
of_number number clients = count_by (λ client. client.number == number) clients

-- how many of the queries are its
abbrev pub queries_of : ℕ → List Step → ℕ
queries_of number steps = sum_by (λ step. of_number number (asked_by step)) steps

-- how many of its queries wait
abbrev pub waiting_for : ℕ → List Slot → ℕ
waiting_for number table = sum_by (λ slot. of_number number (clients_in slot)) table

-- ---- askings by a stream

-- the place is the slot's, for a question that is asked anew
abbrev pub is_new_at : ℕ → Place → Bool
is_new_at slot (Joins other) = false
is_new_at slot (Fills other) = other == slot
is_new_at slot (Replaces other) = other == slot

-- in the step a question comes to the slot
abbrev pub comes_to : ℕ → Step → List Slot → Bool
comes_to slot (Asked now id client) table = is_new_at slot (place_for client.question table)
comes_to slot (Answered other) table = false
comes_to slot (AskedByStream other id) table = false
comes_to slot (Ticked now ids) table = false

-- how often the slot's question is asked by a stream in the step
abbrev pub streams_in : ℕ → Step → List Slot → ℕ
streams_in slot (Asked now id client) table = 0
streams_in slot (Answered other) table = 0
streams_in slot (AskedByStream other id) table =
    if (other == slot) && may_ask_by_stream (slot_at table slot) then 1 else 0
streams_in slot (Ticked now ids) table = 0

-- how often since a question came to the slot last, where it was so often before these steps
abbrev pub streams_since : ℕ → ℕ → List Step → List Slot → ℕ
streams_since slot before [] table = before
streams_since slot before (step ∷ more) table =
    streams_since slot
    (if comes_to slot step table then 0 else before + streams_in slot step table)
    more (after_one step table)

-- ---- when a question came

-- when the slot's question came, where the one before these steps had come at that moment
abbrev pub came_in : ℕ → ℕ → Step → List Slot → ℕ
came_in slot before (Asked now id client) table =
    if comes_to slot (Asked now id client) table then now else before
came_in slot before (Answered other) table = before
came_in slot before (AskedByStream other id) table = before
came_in slot before (Ticked now ids) table = before

-- the same of a run: the moment of the last step in which a question came to the slot
abbrev pub came_at : ℕ → ℕ → List Step → List Slot → ℕ
came_at slot before [] table = before
came_at slot before (step ∷ more) table =
    came_at slot (came_in slot before step table) more (after_one step table)

-- ---- the laws

-- each query of a client is replied to once, or waits
abbrev pub EachIsRepliedToOnce : Type 0
EachIsRepliedToOnce =
    (number : ℕ) (steps : List Step)
    → of_number number (replies_in steps empty_table)
    + waiting_for number (after steps empty_table) ≡ queries_of number steps

-- of two slots one at most takes another client for a question: equal questions are asked once, unless one has 16 clients
abbrev pub AreAskedOnce : List Slot → Type 0
AreAskedOnce table =
    (question : Question) (one other : ℕ)
    → takes question (slot_at table one) ≡ true → takes question (slot_at table other) ≡ true
    → one ≡ other

abbrev pub EachIsAskedOnce : Type 0
EachIsAskedOnce = (steps : List Step) → AreAskedOnce (after steps empty_table)

-- between its coming and its going a question is asked by a stream once at most
abbrev pub EachIsAskedByStreamOnce : Type 0
EachIsAskedByStreamOnce =
    (slot : ℕ) (steps : List Step) → streams_since slot 0 steps empty_table ≤ 1

-- 4.5 seconds haven't passed since the slot's question was asked first
abbrev pub IsInTime : ℕ → Slot → Type 0
IsInTime now slot = IfSome slot (λ waiting. now < waiting.since + PATIENCE)

-- after a tick no question has waited for as long
abbrev pub NoneWaitsForLong : Type 0
NoneWaitsForLong =
    (now : ℕ) (ids : List ℕ) (table : List Slot) → All (IsInTime now) (ticked now ids table)

-- a question that waits counts from the moment at which its first client came
abbrev pub EachCountsFromItsComing : Type 0
EachCountsFromItsComing =
    (slot : ℕ) (steps : List Step)
    → IfSome (slot_at (after steps empty_table) slot)
    (λ waiting. waiting.since ≡ came_at slot 0 steps empty_table)

-- so that after a tick 4.5 seconds haven't passed since
abbrev pub NoneWaitsForLongSinceItsComing : Type 0
NoneWaitsForLongSinceItsComing =
    (slot now : ℕ) (ids : List ℕ) (steps : List Step)
    → IfSome (slot_at (ticked now ids (after steps empty_table)) slot)
    (λ waiting. now < came_at slot 0 steps empty_table + 4500)

-- a question that was asked so often, by datagrams alone, is asked again so many milliseconds later
abbrev pub IsDueAfter : ℕ → ℕ → Type 0
IsDueAfter times wait =
    (now : ℕ) (waiting : Waiting) → waiting.by ≡ Datagram → waiting.times ≡ times
    → is_due now waiting ≡ nat_le (waiting.last + wait) now
