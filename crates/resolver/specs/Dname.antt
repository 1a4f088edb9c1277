-- The DNAME above a name, by what is held at a moment (RFC 6672, sections 2.4 and 3.2).
use Rattle.std.specs.Prelude.{ℕ, List, [], ◌∷◌, Option, None}
use Rattle.std.specs.Option.{option_or, option_map, option_and_then}
use Rattle.dname.specs.Name.{Label}
use Rattle.dname.specs.NameData.{one_name_in}
use Rattle.dname.specs.declared.types.TheConstants.{DNAME_TYPE}
use Rattle.denial_records.specs.declared.set_rec.SetRec.{SetRec}
use Rattle.cache_meaning.specs.Held.{Held}
use Rattle.cache_meaning.specs.Zones.{zone_for}
use Rattle.cache_meaning.specs.Evidence.{usable_set}

-- a DNAME set, and the name that its data is
pub record Dname : Type 0 where
  pub set : SetRec
  pub suffix : List Label

-- of one record of which the data is a name and no more; a set of several says nothing (RFC 6672, section 2.4)
abbrev pub dname_of : SetRec → Option Dname
dname_of set = option_map (λ suffix. record { set = set; suffix = suffix }) (one_name_in set.items)

-- the one of the zone at the owner name that may be used now
abbrev pub dname_at : Held → ℕ → List Label → List Label → Option Dname
dname_at held now zone owner = option_and_then dname_of (usable_set held now zone owner DNAME_TYPE)

-- of those at the names above, the one at the shortest, which a lookup meets first (RFC 6672, section 3.2)
abbrev pub topmost_dname : Held → ℕ → List Label → List Label → Option Dname
topmost_dname held now zone [] = None
topmost_dname held now zone (label ∷ rest) =
    option_or (topmost_dname held now zone rest) (dname_at held now zone rest)

-- in the zone for the question
abbrev pub dname_above : Held → ℕ → List Label → ℕ → Option Dname
dname_above held now name qtype =
    option_and_then (λ zone. topmost_dname held now zone name) (zone_for held name qtype)
