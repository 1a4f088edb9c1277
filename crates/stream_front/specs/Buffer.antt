-- No public clause cites this module. Octets that were read, with room for more of them.
use Rattle.std.specs.Prelude.{ℕ, List}

-- the octets, and for how many more there is room
pub record Buffered : Type 0 where
  pub octets : List ℕ
  pub room : ℕ
