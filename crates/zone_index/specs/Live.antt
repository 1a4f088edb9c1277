-- The live names of a zone, and the next of them on the ring of canonical order.
use Rattle.std.specs.Prelude.{◌≡◌, ◌<◌, ◌↔◌, ℕ, List, length, get_or}
use Rattle.std.specs.List.{Contains}
use Rattle.std.specs.List.Sorted.{IsSorted}
use Rattle.dname.specs.Arc.{IsInside}
use Rattle.dname.specs.Name.{Label, canonical_cmp}
use Rattle.zone_meaning.specs.Zone.{Zone, IsBelow, IsBar, IsLive}

-- a cut or a DNAME is above the name
abbrev pub IsBarred : Zone → List Label → Type 0
IsBarred zone name = (bar : List Label) × IsBar zone bar × IsBelow name bar

-- the names are those that are live, in canonical order; one may come more than once
pub record AreLive (zone : Zone) (names : List (List Label)) : Type 0 where
  pub each : (name : List Label) → Contains names name ↔ IsLive zone name
  pub sorted : IsSorted canonical_cmp names

-- the second of the names follows the first on the ring: none of them is inside the arc from the one to the other
pub record IsNextOf (names : List (List Label)) (name next : List Label) : Type 0 where
  pub there : Contains names next
  pub none : (between : List Label) → Contains names between → IsInside canonical_cmp name next between → ⊥

-- the name stands at the one place, and the next of the names at the other
pub record ArePlaces (names : List (List Label)) (name : List Label) (at after : ℕ) : Type 0 where
  pub within : at < length names
  pub here : (d : List Label) → get_or names at d ≡ name
  pub after_within : after < length names
  pub next : (d : List Label) → IsNextOf names name (get_or names after d)
