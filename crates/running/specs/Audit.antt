-- What a run says by its status of the audit of a recorded run.
use Rattle.std.specs.Prelude.{◌≡◌, ℕ, ◌<◌, ◌≤◌, ◌⊎◌, List, [], length, take, Option, IfSome}
use Rattle.outside_core.specs.Told.{append_told, prepend_told}
use Rattle.zone_meaning.specs.Zone.{Zone}
use Rattle.run_audit.specs.Findings.{IsFound}
use Rattle.run_audit.specs.Spelled.{SpellInputs, SpellOutputs}
use Rattle.run_audit.specs.Upheld.{IsUpheldRun}
use Rattle.run_audit.specs.declared.finding.Finding.{Finding}
use Rattle.run_audit.specs.declared.finding.Finding.TheVariants.{Yes, Unfit, Record, Clash}
use Rattle.run_audit.specs.Line.{finding_line}
use Rattle.audit_source.specs.Source.{IsFaultOf, IsSourceOf}
use Rattle.audit_source.specs.declared.source_fault.SourceFault.{SourceFault}
use Rattle.running.specs.Run.{IsOfReplay, IsRefused, IsShort}
use Rattle.running.specs.declared.reading.TheConstants.{MAX_INPUT, MAX_SOURCE}
use Rattle.running.specs.declared.status.Status.{Status}
use Rattle.running.specs.declared.status.Status.TheVariants.{Good, ReadFault, BadFrame, OutOfMemory, InputTooLong}

-- an audit was made, whether or not all of its line could be written; or the source couldn't be read or is refused, or there was no
-- memory
abbrev pub IsOfAudit : Status → Type 0
IsOfAudit status = IsOfReplay status ⊎ (status ≡ ReadFault) ⊎ IsRefused status ⊎ (status ≡ OutOfMemory)

-- ---- what the octets are

-- they aren't too long for a source, and are one of this zone and run, whose input isn't too long
pub record IsAuditOf (octets : List ℕ) (zone : Zone) (input output : List ℕ) : Type 0 where
  pub size : length octets ≤ MAX_SOURCE
  pub source : IsSourceOf octets zone input output
  pub short : IsShort input

-- and this is found
pub record HasFound (octets : List ℕ) (finding : Finding) : Type 0 where
  pub zone : Zone
  pub input : List ℕ
  pub output : List ℕ
  pub audit : IsAuditOf octets zone input output
  pub found : IsFound zone input output finding

-- and each reply of the run is what the zone looks up
pub record AreUpheld (octets : List ℕ) : Type 0 where
  pub zone : Zone
  pub input : List ℕ
  pub output : List ℕ
  pub audit : IsAuditOf octets zone input output
  pub upheld : IsUpheldRun zone input output

-- they are too long, or are a source whose input is
abbrev pub IsTooLong : List ℕ → Type 0
IsTooLong octets =
    (MAX_SOURCE < length octets)
    ⊎ ((zone : Zone) × (input output : List ℕ) × IsSourceOf octets zone input output × (MAX_INPUT < length input))

-- they aren't too long, and are no source; or the input of one spells no frames, or its output none
pub data IsUnaudited (octets : List ℕ) : Type 0 where
  no_source : length octets ≤ MAX_SOURCE → (fault : SourceFault) → IsFaultOf octets fault → IsUnaudited octets
  no_frames :
      (zone : Zone) (input output : List ℕ) → IsAuditOf octets zone input output
      → (SpellInputs input → ⊥) ⊎ (SpellOutputs output → ⊥) → IsUnaudited octets

-- the status of an audit of these octets, where nothing fails
pub data IsAuditStatusOf (octets : List ℕ) (status : Status) : Type 0 where
  too_long : IsTooLong octets → status ≡ InputTooLong → IsAuditStatusOf octets status
  unaudited : IsUnaudited octets → status ≡ BadFrame → IsAuditStatusOf octets status
  audited : (finding : Finding) → HasFound octets finding → status ≡ Good → IsAuditStatusOf octets status

-- ---- what was written

-- the sink has got the finding's line
pub record IsAudited (octets : List ℕ) (before after : Option (List ℕ)) : Type 0 where
  pub finding : Finding
  pub found : HasFound octets finding
  pub written : after ≡ append_told before (finding_line finding)

-- or a strict prefix of it
pub record IsAuditedInPart (octets : List ℕ) (before after : Option (List ℕ)) : Type 0 where
  pub finding : Finding
  pub found : HasFound octets finding
  pub size : ℕ
  pub strict : size < length (finding_line finding)
  pub written : after ≡ append_told before (take size (finding_line finding))

-- what the source gave up to its end was a source of an audit, and the sink has got the whole line
pub record HasAudited (left rest before after : Option (List ℕ)) : Type 0 where
  pub octets : List ℕ
  pub given : left ≡ prepend_told octets rest
  pub end : IfSome rest (λ more. more ≡ [])
  pub audited : IsAudited octets before after

-- or a strict prefix of it
pub record HasAuditedInPart (left rest before after : Option (List ℕ)) : Type 0 where
  pub octets : List ℕ
  pub given : left ≡ prepend_told octets rest
  pub end : IfSome rest (λ more. more ≡ [])
  pub audited : IsAuditedInPart octets before after

-- ---- no public clause cites what follows

-- where yes is found, each reply is upheld
abbrev pub AreUpheldAtYes : List ℕ → Finding → Type 0
AreUpheldAtYes octets (Yes replies) = AreUpheld octets
AreUpheldAtYes octets (Unfit clause) = Unit {0}
AreUpheldAtYes octets (Record at used) = Unit {0}
AreUpheldAtYes octets (Clash at) = Unit {0}
