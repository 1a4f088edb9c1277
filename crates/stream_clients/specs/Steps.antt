-- The calls, one by one, with what each makes of the places.
use Rattle.std.specs.Prelude.{◌==◌, ◌&&◌, ℕ, Bool, if◌then◌else◌, List, [], ◌∷◌, take, Option, Some, None}
use Rattle.std.specs.Option.{option_to_list}
use Rattle.stream_front.specs.Split.{framed}
use Rattle.stream_clients.specs.declared.next.Next.TheVariants as next
use Rattle.stream_clients.specs.Number.{Client}
use Rattle.stream_clients.specs.Connection.{Connection, closed, message_in, passed, replied, unreplied, with_octets, written}
use Rattle.stream_clients.specs.Places.{IsNextOf, Place, changed, connection_of, new_client, opened, output_of}

-- A client connects; octets that came over its connection are taken; the message that stands next is; it has a reply, or has none; so
-- much of what waits is written; its connection is closed, for whatever cause
pub data Step : Type 0 where
  Opened : (now : ℕ) → Step
  Took : (client : Client) (octets : List ℕ) → Step
  Passed : (client : Client) → Step
  Replied : (client : Client) (octets : List ℕ) (now : ℕ) → Step
  Unreplied : (client : Client) (now : ℕ) → Step
  Written : (client : Client) (count now : ℕ) → Step
  Closed : (client : Client) → Step

abbrev pub after_one : Step → List Place → List Place
after_one (Opened now) places = opened now places
after_one (Took client octets) places = changed client (with_octets octets) places
after_one (Passed client) places = changed client passed places
after_one (Replied client octets now) places = changed client (replied octets now) places
after_one (Unreplied client now) places = changed client (unreplied now) places
after_one (Written client count now) places = changed client (written count now) places
after_one (Closed client) places = changed client closed places

-- a message is taken where one stands next
abbrev pub IsThere : Step → List Place → Type 0
IsThere (Opened now) places = Unit {0}
IsThere (Took client octets) places = Unit {0}
IsThere (Passed client) places = IsNextOf (connection_of client places) next.Message
IsThere (Replied client octets now) places = Unit {0}
IsThere (Unreplied client now) places = Unit {0}
IsThere (Written client count now) places = Unit {0}
IsThere (Closed client) places = Unit {0}

-- ---- what a call does, as a list

-- who connects
abbrev pub new_by : Step → List Place → List Client
new_by (Opened now) places = option_to_list (new_client places)
new_by (Took client octets) places = []
new_by (Passed client) places = []
new_by (Replied client octets now) places = []
new_by (Unreplied client now) places = []
new_by (Written client count now) places = []
new_by (Closed client) places = []

abbrev pub is_client : Client → Client → Bool
is_client one other = (one.place == other.place) && (one.generation == other.generation)

-- what is done for a client, where the call is for that one
abbrev pub if_client : {X : Type 0} → Client → Client → List X → List X
if_client one other things = if is_client one other then things else []

-- and its connection is open
abbrev pub if_open : Option Connection → List ℕ → List ℕ
if_open None octets = []
if_open (Some c) octets = octets

-- the octets that are taken of those which came over the client's connection
abbrev pub taken_by : Client → Step → List Place → List ℕ
taken_by client (Opened now) places = []
taken_by client (Took other octets) places =
    if_client other client (if_open (connection_of client places) octets)
taken_by client (Passed other) places = []
taken_by client (Replied other octets now) places = []
taken_by client (Unreplied other now) places = []
taken_by client (Written other count now) places = []
taken_by client (Closed other) places = []

-- the message of the client's that is taken
abbrev pub messages_of : Option Connection → List (List ℕ)
messages_of None = []
messages_of (Some c) = message_in c.left ∷ []

abbrev pub message_by : Client → Step → List Place → List (List ℕ)
message_by client (Opened now) places = []
message_by client (Took other octets) places = []
message_by client (Passed other) places =
    if_client other client (messages_of (connection_of client places))
message_by client (Replied other octets now) places = []
message_by client (Unreplied other now) places = []
message_by client (Written other count now) places = []
message_by client (Closed other) places = []

-- the client's reply, behind its length
abbrev pub reply_by : Client → Step → List Place → List ℕ
reply_by client (Opened now) places = []
reply_by client (Took other octets) places = []
reply_by client (Passed other) places = []
reply_by client (Replied other octets now) places =
    if_client other client (if_open (connection_of client places) (framed octets))
reply_by client (Unreplied other now) places = []
reply_by client (Written other count now) places = []
reply_by client (Closed other) places = []

-- when a message of the client's is answered, or known to have no reply
abbrev pub answer_by : Client → Step → List Place → List ℕ
answer_by client (Opened now) places = []
answer_by client (Took other octets) places = []
answer_by client (Passed other) places = []
answer_by client (Replied other octets now) places =
    if_client other client (if_open (connection_of client places) (now ∷ []))
answer_by client (Unreplied other now) places =
    if_client other client (if_open (connection_of client places) (now ∷ []))
answer_by client (Written other count now) places = []
answer_by client (Closed other) places = []

-- what is written to the client
abbrev pub sent_by : Client → Step → List Place → List ℕ
sent_by client (Opened now) places = []
sent_by client (Took other octets) places = []
sent_by client (Passed other) places = []
sent_by client (Replied other octets now) places = []
sent_by client (Unreplied other now) places = []
sent_by client (Written other count now) places =
    if_client other client (take count (output_of (connection_of client places)))
sent_by client (Closed other) places = []
