-- What a zone lends, in the words of the definitions.
use Rattle.std.specs.Prelude.{ℕ, Bool, List, if◌then◌else◌, Option, Some, None}
use Rattle.cache_meaning.specs.Held.{HashParameters, Chain, NsecChain, Nsec3Chain}
use Rattle.cache_meaning.specs.declared.place.Place.{Place}
use Rattle.cache_meaning.specs.declared.place.Place.TheVariants.{Start, Inside}
use Rattle.cache_meaning.specs.declared.chain.Chain.{Chain as LentChain}
use Rattle.cache_meaning.specs.declared.chain.Chain.TheVariants.{Bare, Nsec, Nsec3}

-- by what names are hashed
abbrev pub parameters_by : List ℕ → ℕ → HashParameters
parameters_by salt iterations = record { salt = salt; iterations = iterations }

-- the chain that is lent
abbrev pub lent_chain : LentChain → Option Chain
lent_chain Bare = None
lent_chain Nsec = Some NsecChain
lent_chain (Nsec3 salt iterations) = Some (Nsec3Chain (parameters_by salt.now iterations))

-- where a name is whose record this is, or isn't
abbrev pub place_by : Bool → Place
place_by matches = if matches then Start else Inside
