-- Which connections have waited too long.
use Rattle.std.specs.Prelude.{◌==◌, ◌≡◌, ◌&&◌, ◌||◌, ℕ, ◌+◌, ◌<◌, ◌≤◌, Bool, true, false, not, nat_le, List, length, Option, Some, None}
use Rattle.stream_clients.specs.declared.connection.TheConstants.{PATIENCE}
use Rattle.stream_clients.specs.Number.{Client}
use Rattle.stream_clients.specs.Connection.{Connection}
use Rattle.stream_clients.specs.Places.{Place, connection_of, place_at}

-- For ten seconds the connection was idle: it has had the replies to all that came over it (RFC 7766, section 3), and no part of a message
-- changes that (section 6.2.3). Or its client has read nothing for ten seconds, of what was to be written
abbrev pub has_waited : ℕ → Connection → Bool
has_waited now c =
    ((c.unanswered == 0) || not (length c.output == 0)) && nat_le (c.since + PATIENCE) now

abbrev pub has_waited_at : ℕ → Option Connection → Bool
has_waited_at now None = false
has_waited_at now (Some c) = has_waited now c

-- of the places from that one on the first whose connection has waited too long
abbrev pub IsNextIdle : ℕ → ℕ → List Place → Option Client → Type 0
IsNextIdle from now places (Some client) =
    (from ≤ client.place) × (has_waited_at now (connection_of client places) ≡ true)
    × ((k : ℕ) → from ≤ k → k < client.place
    → has_waited_at now (place_at places k).connection ≡ false)
IsNextIdle from now places None =
    (k : ℕ) → from ≤ k → has_waited_at now (place_at places k).connection ≡ false
