-- What the steps of a record's check tell. No public clause cites this module.
use Rattle.std.specs.Prelude.{◌≡◌, ◌≢◌, ◌↔◌, ℕ, List, []}
use Rattle.std.specs.List.{Contains}
use Rattle.std.specs.Ordering.{nat_cmp}
use Rattle.std.specs.Cmp.Lexicographic.{slice_cmp}
use Rattle.std.specs.declared.cmp.Ordering.{Ordering}
use denote.Ref.{Bor}
use Rattle.dname.specs.Name.{Label}
use Rattle.dname.specs.declared.types.TheConstants.{DS_TYPE}
use Rattle.zone_meaning.specs.Zone.{Zone, HasData, IsCut}

-- the zone has just these data of the owner and type, and there are some
abbrev pub HasJust : Zone → List Label → ℕ → List (List ℕ) → Type 0
HasJust zone owner rtype items = (items ≢ []) × ((octets : List ℕ) → Contains items octets ↔ HasData zone owner rtype octets)

-- the zone has just these data, and speaks for them
pub record HasSet (zone : Zone) (owner : List Label) (rtype : ℕ) (items : List (List ℕ)) : Type 0 where
  pub just : HasJust zone owner rtype items
  pub authority : IsCut zone owner → rtype ≡ DS_TYPE

-- the zone has each of the data
abbrev pub HasEach : Zone → List Label → ℕ → List (List ℕ) → Type 0
HasEach zone owner rtype items = (octets : List ℕ) → Contains items octets → HasData zone owner rtype octets

abbrev pub octets_cmp : Bor (List ℕ) → Bor (List ℕ) → Ordering
octets_cmp x y = slice_cmp nat_cmp x.now y.now

-- the octets are one of the items
abbrev pub IsAmong : List (Bor (List ℕ)) → List ℕ → Type 0
IsAmong items octets = (item : Bor (List ℕ)) × Contains items item × (item.now ≡ octets)
