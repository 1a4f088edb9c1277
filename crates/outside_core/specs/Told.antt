-- Octets that a source or a sink may tell: `None` tells nothing.
use Rattle.std.specs.Prelude.{ℕ, List, ◌++◌, Option, option_map}

-- what is told, and then these octets
abbrev pub append_told : Option (List ℕ) → List ℕ → Option (List ℕ)
append_told told octets = option_map (λ before. before ++ octets) told

-- these octets, and then what is told
abbrev pub prepend_told : List ℕ → Option (List ℕ) → Option (List ℕ)
prepend_told octets told = option_map (λ after. octets ++ after) told
