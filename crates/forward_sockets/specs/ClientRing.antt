-- Clients that have no reply yet, by their numbers.
use Rattle.std.specs.Prelude.{◌≡◌, ℕ, ◌%◌, ◌<◌, ◌==◌, if◌then◌else◌, List, length, get_or, Option, None}
use Rattle.forward_sockets.specs.declared.client_ring.ClientAddress.{ClientAddress}
use Rattle.forward_sockets.specs.declared.client_ring.ClientPlace.{ClientPlace}
use Rattle.forward_sockets.specs.declared.client_ring.TheConstants.{PLACES}

abbrev pub place_of : ℕ → Option ClientAddress → ClientPlace
place_of number client = record { number = number; client = client }

abbrev pub place_at : List ClientPlace → ℕ → ClientPlace
place_at places at = get_or places at (place_of 0 None)

-- the client of a place, where the number is the place's
abbrev pub client_of : ℕ → ClientPlace → Option ClientAddress
client_of number place = if place.number == number then place.client else None

-- the client that a number names
abbrev pub client_at : List ClientPlace → ℕ → Option ClientAddress
client_at places number = client_of number (place_at places (number % PLACES))

-- the place has no client
abbrev pub IsFreeAt : List ClientPlace → ℕ → Type 0
IsFreeAt places at = (place_at places at).client ≡ None

-- no two places have a number in common
pub record IsRing (places : List ClientPlace) : Type 0 where
  pub all : length places ≡ PLACES
  pub own : (at : ℕ) → at < PLACES → (place_at places at).number % PLACES ≡ at
