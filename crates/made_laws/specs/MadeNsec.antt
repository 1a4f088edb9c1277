-- The NSEC records of a made zone, as they stand in it.
use Rattle.std.specs.Prelude.{ℕ, zero, suc, List, [], ◌∷◌}
use Rattle.dname.specs.declared.types.TheConstants.{NS_TYPE, NSEC_TYPE, RRSIG_TYPE, SOA_TYPE}
use Rattle.zone_meaning.specs.Consistent.{NsecPart}
use Rattle.zone_maker.specs.Made.{made_example, type_in, kind_at, made_owner, next_owner}

-- the types in the bit map of an owner's NSEC: those of its records, and of the signature and the NSEC themselves
abbrev pub types_at : ℕ → List ℕ
types_at zero = NS_TYPE ∷ SOA_TYPE ∷ RRSIG_TYPE ∷ NSEC_TYPE ∷ []
types_at (suc i) = type_in (kind_at i) ∷ RRSIG_TYPE ∷ NSEC_TYPE ∷ []

-- the NSEC of owner number k
abbrev pub nsec_at : ℕ → ℕ → NsecPart
nsec_at names k = record { zone = made_example; owner = made_owner k; next = next_owner names k; types = types_at k }
