-- What stands at the front of octets.
use Rattle.std.specs.Prelude.{◌≡◌, ℕ, ◌<◌, List, ◌++◌, length}
use Rattle.stream_front.specs.Split.{IsFramed, IsLeft, IsPart, TooSmall, framed}
use Rattle.stream_front.specs.declared.ahead.Ahead.{Ahead}
use Rattle.stream_front.specs.declared.ahead.Ahead.TheVariants as ahead

-- a whole message, less than one, or a length that no message has
abbrev pub IsAhead : List ℕ → Ahead → Type 0
IsAhead octets (ahead.Message message after) = (octets ≡ framed message.now ++ after.now) × IsFramed message.now
IsAhead octets ahead.Part = IsPart octets
IsAhead octets (ahead.TooSmall size) = IsLeft octets (TooSmall size)

-- where octets begin so and are fewer, they are less than a message
abbrev pub IsWanted : List ℕ → ℕ → Type 0
IsWanted octets wanted = (more : List ℕ) → length (octets ++ more) < wanted → IsPart (octets ++ more)
