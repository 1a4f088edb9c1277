-- Octets are one source at most, or have one fault.
use Rattle.std.specs.Prelude.{◌≡◌, ℕ, List}
use Rattle.zone_meaning.specs.Zone.{Zone, IsSameZone}
use Rattle.audit_source.specs.Source.{IsSourceOf, IsFaultOf}
use Rattle.audit_source.specs.declared.source_fault.SourceFault.{SourceFault}

-- two readings of the same octets are of one zone, one input and one output
pub record IsOneReading (zone other : Zone) (input input' output output' : List ℕ) : Type 0 where
  pub zones : IsSameZone zone other
  pub inputs : input ≡ input'
  pub outputs : output ≡ output'

pub record HasOneReading : Type 0 where
  pub source :
      (octets : List ℕ) (zone other : Zone) (input input' output output' : List ℕ)
      → IsSourceOf octets zone input output → IsSourceOf octets other input' output'
      → IsOneReading zone other input input' output output'
  pub fault : (octets : List ℕ) (fault other : SourceFault) → IsFaultOf octets fault → IsFaultOf octets other → fault ≡ other
  pub never_both :
      (octets : List ℕ) (zone : Zone) (input output : List ℕ) (fault : SourceFault)
      → IsSourceOf octets zone input output → IsFaultOf octets fault → ⊥
