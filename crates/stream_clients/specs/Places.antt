-- The places of connections.
use Rattle.std.specs.Prelude.{◌==◌, ◌≡◌, ◌&&◌, ℕ, ◌+◌, ◌-◌, ◌^◌, Bool, nat_lt, min, if◌then◌else◌, List, [], length, replicate, set, get_or, Option, Some, None, is_none, option_and_then, option_map}
use Rattle.std.specs.List.{position}
use Rattle.stream_clients.specs.declared.client_number.TheConstants.{PLACES}
use Rattle.stream_clients.specs.Number.{Client}
use Rattle.stream_clients.specs.declared.connection.TheConstants.{MOST_LEFT}
use Rattle.stream_clients.specs.declared.next.Next.{Next}
use Rattle.stream_clients.specs.declared.next.Next.TheVariants as next
use Rattle.stream_clients.specs.Connection.{Change, Connection, IsNext, closed, fresh, message_in}

-- How many connections a place has had, and the last of them while it is open
pub record Place : Type 0 where
  pub generation : ℕ
  pub connection : Option Connection

abbrev pub unused : Place
unused = record { generation = 0; connection = None }

-- no client has connected yet
unfoldable pub no_connections : List Place
no_connections = replicate PLACES unused

abbrev pub place_at : List Place → ℕ → Place
place_at places k = get_or places k unused

-- the place's connection of this generation, where it is open
abbrev pub connection_in : ℕ → Place → Option Connection
connection_in generation place = if place.generation == generation then place.connection else None

-- the client's connection, where it is open
abbrev pub connection_of : Client → List Place → Option Connection
connection_of client places = connection_in client.generation (place_at places client.place)

-- ---- a connection begins

-- a place without an open connection, unless it has had as many as have numbers
abbrev pub is_free : Place → Bool
is_free place = is_none place.connection && nat_lt (place.generation + 1) (2 ^ 58)

abbrev pub begun : ℕ → Place → Place
begun now place = record { generation = place.generation + 1; connection = Some (fresh now) }

abbrev pub begun_at : ℕ → Option ℕ → List Place → List Place
begun_at now None places = places
begun_at now (Some k) places = set places k (begun now (place_at places k))

-- the first free place has a connection now
abbrev pub opened : ℕ → List Place → List Place
opened now places = begun_at now (position is_free places) places

abbrev pub next_client : List Place → ℕ → Client
next_client places k = record { place = k; generation = (place_at places k).generation + 1 }

-- whose it is
abbrev pub new_client : List Place → Option Client
new_client places = option_map (next_client places) (position is_free places)

-- ---- a connection changes

-- the connection of this generation, where it is open
abbrev pub changed_in : ℕ → Change → Place → Place
changed_in generation change place = record {
  generation = place.generation;
  connection =
      if place.generation == generation then option_and_then change place.connection
      else place.connection;
}

-- the client's connection alone, where it is open
abbrev pub changed : Client → Change → List Place → List Place
changed client change places =
    set places client.place (changed_in client.generation change (place_at places client.place))

-- what stands next closes the connection where it isn't a message that may be taken, or less than one
abbrev pub settled_in : ℕ → Next → Place → Place
settled_in generation next.Message place = place
settled_in generation next.Nothing place = place
settled_in generation next.TooMany place = changed_in generation closed place
settled_in generation next.TooSmall place = changed_in generation closed place

abbrev pub settled : Client → Next → List Place → List Place
settled client next.Message places = places
settled client next.Nothing places = places
settled client next.TooMany places = changed client closed places
settled client next.TooSmall places = changed client closed places

-- ---- what is seen of a connection

-- what stands next; nothing where it isn't open
abbrev pub IsNextOf : Option Connection → Next → Type 0
IsNextOf None result = result ≡ next.Nothing
IsNextOf (Some c) result = IsNext c result

abbrev pub message_of : Option Connection → List ℕ
message_of None = []
message_of (Some c) = message_in c.left

abbrev pub output_of : Option Connection → List ℕ
output_of None = []
output_of (Some c) = c.output

-- How many octets of a piece are taken: as many as there is room for. Those of a connection that isn't open go nowhere
abbrev pub count_taken : List ℕ → Option Connection → ℕ
count_taken piece None = length piece
count_taken piece (Some c) = min (length piece) (MOST_LEFT - length c.left)
