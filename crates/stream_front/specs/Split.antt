-- How octets of a stream are split into messages, each after its length (RFC 1035, section 4.2.2; RFC 7766, section 8).
use Rattle.std.specs.Prelude.{◌≡◌, ℕ, ◌+◌, ◌<◌, ◌≤◌, ◌^◌, ◌⊎◌, List, [], ◌++◌, length, Option, Some, None}
use Rattle.std.specs.List.{All, flat_map}
use Rattle.byteorder.specs.Endian.{big_bytes, big_number}
use Rattle.stream_front.specs.declared.ahead.TheConstants.{LEAST_MESSAGE}

-- a message after its length in two octets
abbrev pub framed : List ℕ → List ℕ
framed message = big_bytes 2 (length message) ++ message

-- it has a header, and two octets hold its length
pub record IsFramed (message : List ℕ) : Type 0 where
  pub header : LEAST_MESSAGE ≤ length message
  pub fits : length message < 2 ^ 16

-- what stands behind the whole messages of a stream
pub data Left : Type 0 where
  -- less than one message more
  Rest : List ℕ → Left
  -- a length that no message has
  TooSmall : ℕ → Left

-- less than a length, or fewer octets behind a length than it says
abbrev pub IsPart : List ℕ → Type 0
IsPart octets =
    (length octets < 2)
    ⊎ ((LEAST_MESSAGE ≤ big_number 2 octets) × (length octets < 2 + big_number 2 octets))

-- the octets behind the whole messages are such
abbrev pub IsLeft : List ℕ → Left → Type 0
IsLeft octets (Rest rest) = (octets ≡ rest) × IsPart rest
IsLeft octets (TooSmall size) =
    (2 ≤ length octets) × (big_number 2 octets ≡ size) × (size < LEAST_MESSAGE)

-- these messages stand at the front of the octets, and then this
pub record Begins (octets : List ℕ) (messages : List (List ℕ)) (rest : List ℕ) : Type 0 where
  pub written : octets ≡ flat_map framed messages ++ rest
  pub each : All IsFramed messages

-- the octets are these messages, and then what is left
pub record Splits (octets : List ℕ) (messages : List (List ℕ)) (left : Left) : Type 0 where
  pub tail : List ℕ
  pub written : octets ≡ flat_map framed messages ++ tail
  pub each : All IsFramed messages
  pub left_is : IsLeft tail left

-- octets have one split
abbrev pub SplitsOneWay : Type 0
SplitsOneWay =
    (octets : List ℕ) (messages messages' : List (List ℕ)) (left left' : Left)
    → Splits octets messages left → Splits octets messages' left'
    → (messages ≡ messages') × (left ≡ left')

-- what is left, where these octets belong to no message, unless such a length stands there
abbrev pub left_of : Option ℕ → List ℕ → Left
left_of None rest = Rest rest
left_of (Some size) rest = TooSmall size

-- the length that is left
abbrev pub too_small_in : Left → Option ℕ
too_small_in (Rest rest) = None
too_small_in (TooSmall size) = Some size

-- the octets that are left, where they are less than a message
abbrev pub rest_in : Left → List ℕ
rest_in (Rest rest) = rest
rest_in (TooSmall size) = []
