-- One connection of a client.
use Rattle.std.specs.Prelude.{◌==◌, ◌≡◌, ℕ, ◌+◌, ◌-◌, ◌<◌, ◌≤◌, if◌then◌else◌, List, [], ◌++◌, length, take, drop, Option, Some, None}
use Rattle.byteorder.specs.Endian.{big_number}
use Rattle.stream_front.specs.Split.{IsFramed, IsLeft, IsPart, TooSmall, framed}
use Rattle.stream_clients.specs.declared.next.Next.{Next}
use Rattle.stream_clients.specs.declared.next.Next.TheVariants as next
use Rattle.stream_clients.specs.declared.connection.TheConstants.{UNANSWERED}

-- What came and belongs to no message that was taken; how many messages were taken and have no reply yet; what is to be written; and
-- the moment from which the connection's ten seconds count, in milliseconds
pub record Connection : Type 0 where
  pub left : List ℕ
  pub unanswered : ℕ
  pub output : List ℕ
  pub since : ℕ

abbrev pub fresh : ℕ → Connection
fresh now = record { left = []; unanswered = 0; output = []; since = now }

-- ---- what stands next

-- the octets behind the first length that it counts, and those behind these
abbrev pub message_in : List ℕ → List ℕ
message_in octets = take (big_number 2 octets) (drop 2 octets)

abbrev pub behind_in : List ℕ → List ℕ
behind_in octets = drop (2 + big_number 2 octets) octets

-- a whole message stands first
pub record IsWhole (octets : List ℕ) : Type 0 where
  pub written : octets ≡ framed (message_in octets) ++ behind_in octets
  pub each : IsFramed (message_in octets)

-- a message that may be taken, or less than one; a message where too many have no reply; a length that no message has
abbrev pub IsNext : Connection → Next → Type 0
IsNext c next.Message = IsWhole c.left × (c.unanswered < UNANSWERED)
IsNext c next.Nothing = IsPart c.left
IsNext c next.TooMany = IsWhole c.left × (UNANSWERED ≤ c.unanswered)
IsNext c next.TooSmall = (size : ℕ) × IsLeft c.left (TooSmall size)

-- ---- what calls make of a connection

-- None where it is closed
abbrev pub Change : Type 0
Change = Connection → Option Connection

abbrev pub closed : Change
closed c = None

-- a piece has come
abbrev pub with_octets : List ℕ → Change
with_octets octets c = Some (record c { left = c.left ++ octets })

-- the message that stands first was taken
abbrev pub passed : Change
passed c = Some (record c { left = behind_in c.left; unanswered = c.unanswered + 1 })

-- a message that was taken has no reply
abbrev pub unreplied : ℕ → Change
unreplied now c =
    Some (record c {
      unanswered = c.unanswered - 1;
      since = if length c.output == 0 then now else c.since;
    })

-- it has one, which is to be written behind its length; an output that was empty begins to wait
abbrev pub replied : List ℕ → ℕ → Change
replied octets now c =
    Some (record c {
      unanswered = c.unanswered - 1;
      output = c.output ++ framed octets;
      since = if length c.output == 0 then now else c.since;
    })

-- so many octets were written
abbrev pub written : ℕ → ℕ → Change
written count now c =
    if count == 0 then Some c else Some (record c { output = drop count c.output; since = now })
