-- The number of a client's connection.
use Rattle.std.specs.Prelude.{ℕ, ◌+◌, ◌*◌, ◌/◌, ◌%◌, ◌^◌, nat_lt, if◌then◌else◌, Option, Some, None}
use Rattle.stream_clients.specs.declared.client_number.TheConstants.{PLACES}

-- a connection, by its place and by how many the place has had with it
pub record Client : Type 0 where
  pub place : ℕ
  pub generation : ℕ

abbrev pub number_of : Client → ℕ
number_of client = client.generation * PLACES + client.place

-- the highest of 64 bits belongs to no connection
abbrev pub client_of : ℕ → Option Client
client_of number =
    if nat_lt number (2 ^ 63)
    then Some (record { place = number % PLACES; generation = number / PLACES })
    else None
