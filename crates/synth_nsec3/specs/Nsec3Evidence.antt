-- No public clause cites this module: what the NSEC3 record that speaks of a name says of it.
use Rattle.std.specs.Prelude.{◌≡◌, List, IsTrue, IfSome, false, Option}
use Rattle.std.specs.Option.{option_map}
use Rattle.dname.specs.Name.{Label}
use Rattle.denial_records.specs.declared.nsec3_rec.Nsec3Rec.{Nsec3Rec}
use Rattle.cache_meaning.specs.Evidence.{nsec3_matches, nsec3_covers}
use Rattle.synth_nsec3.specs.ChainAt.{ChainAt, speaker}
use Rattle.synth_nsec3.specs.declared.nsec3_evidence.Nsec3Evidence.{Nsec3Evidence}
use Rattle.synth_nsec3.specs.declared.nsec3_evidence.Nsec3Evidence.TheVariants.{Matches, Covers, Spans}
use Rattle.synth_nsec3.specs.declared.nsec3_evidence.Asked.{Asked}
use Rattle.synth_nsec3.specs.declared.nsec3_evidence.Asked.TheVariants.{Before, NotYet}

-- the record itself
abbrev pub record_of : Nsec3Evidence → Nsec3Rec
record_of (Matches matching) = matching.now
record_of (Covers covering) = covering.now
record_of (Spans spanning) = spanning.now

-- it neither matches nor covers the name
pub record IsSpan (chain : ChainAt) (name : List Label) (nsec3 : Nsec3Rec) : Type 0 where
  pub no_match : nsec3_matches chain.parameters nsec3 name ≡ false
  pub no_cover : nsec3_covers chain.parameters nsec3 name ≡ false

-- the record matches the name, covers it, or has it in an Opt-Out span
abbrev pub Says : ChainAt → List Label → Nsec3Evidence → Type 0
Says chain name (Matches matching) = IsTrue (nsec3_matches chain.parameters matching.now name)
Says chain name (Covers covering) = IsTrue (nsec3_covers chain.parameters covering.now name)
Says chain name (Spans spanning) = IsSpan chain name spanning.now

-- what is found is what the chain says of the name
pub record IsFound (chain : ChainAt) (name : List Label) (found : Option Nsec3Evidence) : Type 0 where
  pub record_is : option_map record_of found ≡ speaker chain name
  pub says : IfSome found (Says chain name)

-- what was asked before is what the chain says of the name
abbrev pub IsAskedOf : ChainAt → List Label → Asked → Type 0
IsAskedOf chain name (Before found) = IsFound chain name found
IsAskedOf chain name NotYet = Unit {0}
