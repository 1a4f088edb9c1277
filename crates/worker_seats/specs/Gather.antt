-- No public clause cites this module. Pieces that are gathered before they are written.
use Rattle.std.specs.Prelude.{◌≡◌, ℕ, ◌<◌, List, ◌++◌, length, take, Option}
use Rattle.outside_core.specs.Told.{append_told}

-- the piece has come behind what was gathered, of which a part went to the sink
pub record Gathers (gathered piece gathered' : List ℕ) (before after : Option (List ℕ)) : Type 0 where
  pub gone : List ℕ
  pub all : gone ++ gathered' ≡ gathered ++ piece
  pub written : after ≡ append_told before gone

-- the sink has got a strict prefix of the octets
pub record IsPartWritten (octets : List ℕ) (before after : Option (List ℕ)) : Type 0 where
  pub size : ℕ
  pub strict : size < length octets
  pub written : after ≡ append_told before (take size octets)
