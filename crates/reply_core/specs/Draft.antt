-- No public clause cites this module. Octets that are put one after the other, up to a limit.
use Rattle.std.specs.Prelude.{ℕ, if◌then◌else◌, nat_le, List, [], ◌∷◌, ◌++◌, length, take, slice_set, Option, Some, None}
use Rattle.std.specs.List.{fold}
use Rattle.std.specs.Option.{option_map}

-- what a draft has: the octets that were put, or none once there were more than the limit
pub record Contents : Type 0 where
  pub limit : ℕ
  pub written : Option (List ℕ)

-- octets where they are within a limit
abbrev pub within : ℕ → List ℕ → Option (List ℕ)
within limit octets = if nat_le (length octets) limit then Some octets else None

-- what is written with one octet more
abbrev pub put_octet : ℕ → Option (List ℕ) → ℕ → Option (List ℕ)
put_octet limit None octet = None
put_octet limit (Some written) octet = within limit (written ++ octet ∷ [])

-- the draft with these octets after what it has
unfoldable pub put : Contents → List ℕ → Contents
put draft octets = record {
  limit = draft.limit;
  written = fold (put_octet draft.limit) draft.written octets;
}

-- the draft with an octet in place of that at a place
abbrev pub set_octet : Contents → ℕ → ℕ → Contents
set_octet draft at octet = record {
  limit = draft.limit;
  written = option_map (λ octets. slice_set octets at octet) draft.written;
}

-- a draft with nothing in it
abbrev pub blank : ℕ → Contents
blank limit = record { limit = limit; written = Some [] }

-- the octets that there are
abbrev pub octets_of : Option (List ℕ) → List ℕ
octets_of None = []
octets_of (Some octets) = octets

-- the draft with the octets before a place alone, for another limit
abbrev pub cut : ℕ → ℕ → Contents → Contents
cut at limit draft = record { limit = limit; written = Some (take at (octets_of draft.written)) }
