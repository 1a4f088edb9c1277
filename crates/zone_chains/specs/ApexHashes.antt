-- No public clause cites this module: what kept hashes were taken of.
use Rattle.std.specs.Prelude.{ℕ, List}
use Rattle.dname.specs.Name.{Label}

pub record Hashed : Type 0 where
  pub apex : List Label
  pub salt : List ℕ
  pub iterations : ℕ
