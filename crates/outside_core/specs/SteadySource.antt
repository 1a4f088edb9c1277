-- A source in memory that never fails.
use Rattle.std.specs.Prelude.{ℕ, List, [], ◌++◌, take, drop}

-- the octets that were taken, and those that are left
pub record Supply : Type 0 where
  pub taken : List ℕ
  pub left : List ℕ

-- the supply before the first octet is taken
abbrev pub supply_of : List ℕ → Supply
supply_of contents = record { taken = []; left = contents }

-- the supply after its next octets, so many, are taken
abbrev pub after_taking : ℕ → Supply → Supply
after_taking count supply = record {
  taken = supply.taken ++ take count supply.left;
  left = drop count supply.left;
}
