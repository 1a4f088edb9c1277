-- What an audit reads: the octets of a zone, and behind them those of a recorded run. Numbers are big-endian.
use Rattle.std.specs.Prelude.{◌≡◌, ◌≢◌, ℕ, ◌<◌, ◌≤◌, ◌^◌, List, [], ◌∷◌, ◌++◌, length, map}
use Rattle.std.specs.List.{All, flat_map}
use Rattle.byteorder.specs.Endian.{big_bytes}
use Rattle.dname.specs.Name.{Label, IsUnder, lowered, labels_of}
use Rattle.dname.specs.Read.{IsWireForm}
use Rattle.zone_meaning.specs.Zone.{Zone, ZoneRecord, IsZone, IsSameZone, IsProofType}
use Rattle.audit_source.specs.declared.reading.TheConstants.{MOST_RECORDS}
use Rattle.audit_source.specs.declared.source_fault.SourceFault.{SourceFault}
use Rattle.audit_source.specs.declared.source_fault.SourceFault.TheVariants.{Form, Outside, Forbidden, Trailing, OutOfMemory}

-- ---- as it is written

-- octets after their number, which takes so many octets
abbrev pub counted : ℕ → List ℕ → List ℕ
counted size octets = big_bytes size (length octets) ++ octets

-- a record of the zone: its owner's wire form, its type, and its data with each name written out
pub record Entry : Type 0 where
  pub owner : List ℕ
  pub rtype : ℕ
  pub octets : List ℕ

-- length of the owner's form (2 octets), the form, type (2), length of the data (2), data
abbrev pub entry_spelling : Entry → List ℕ
entry_spelling entry = counted 2 entry.owner ++ (big_bytes 2 entry.rtype ++ counted 2 entry.octets)

-- the form is that of a name, in whatever case, and each number fits its place
pub record IsEntry (entry : Entry) : Type 0 where
  pub owner : IsWireForm entry.owner
  pub rtype_fits : entry.rtype < 2 ^ 16
  pub octets_fit : length entry.octets < 2 ^ 16

-- a zone's records, with the form of its apex, and the octets of a run's input and output
pub record Source : Type 0 where
  pub apex : List ℕ
  pub entries : List Entry
  pub input : List ℕ
  pub output : List ℕ

-- length of the apex's form (2), the form, number of records (4), records
abbrev pub zone_spelling : List ℕ → List Entry → List ℕ
zone_spelling apex entries = counted 2 apex ++ (big_bytes 4 (length entries) ++ flat_map entry_spelling entries)

-- length of the input (4), input, length of the output (4), output
abbrev pub run_spelling : List ℕ → List ℕ → List ℕ
run_spelling input output = counted 4 input ++ counted 4 output

abbrev pub source_spelling : Source → List ℕ
source_spelling source = zone_spelling source.apex source.entries ++ run_spelling source.input source.output

pub record IsSource (source : Source) : Type 0 where
  pub apex : IsWireForm source.apex
  pub few : length source.entries ≤ MOST_RECORDS
  pub entries : All IsEntry source.entries
  pub input_fits : length source.input < 2 ^ 32
  pub output_fits : length source.output < 2 ^ 32

-- the octets begin with those of the source
pub record BeginsWith (octets : List ℕ) (source : Source) (rest : List ℕ) : Type 0 where
  pub spelled : octets ≡ source_spelling source ++ rest
  pub valid : IsSource source

-- ---- what it says

-- the name that a wire form spells, lowered
abbrev pub name_of : List ℕ → List Label
name_of form = map lowered (labels_of form)

abbrev pub record_of : Entry → ZoneRecord
record_of entry = record { owner = name_of entry.owner; rtype = entry.rtype; octets = entry.octets }

abbrev pub zone_of : Source → Zone
zone_of source = record { apex = name_of source.apex; records = map record_of source.entries }

-- the octets are a source of this zone, its records in whatever order, and of this input and output; nothing follows
pub record IsSourceOf (octets : List ℕ) (zone : Zone) (input output : List ℕ) : Type 0 where
  pub source : Source
  pub whole : BeginsWith octets source []
  pub valid : IsZone (zone_of source)
  pub zone_is : IsSameZone (zone_of source) zone
  pub input_is : input ≡ source.input
  pub output_is : output ≡ source.output

-- ---- the first fault, where they aren't

-- of the zone with this apex the record is none: its owner isn't under the apex, or else its type is that of a proof
abbrev pub IsRefusedFor : SourceFault → List Label → ZoneRecord → Type 0
IsRefusedFor Outside apex r = IsUnder r.owner apex → ⊥
IsRefusedFor Forbidden apex r = IsUnder r.owner apex × IsProofType r.rtype
IsRefusedFor Form apex r = ⊥
IsRefusedFor Trailing apex r = ⊥
IsRefusedFor OutOfMemory apex r = ⊥

-- so is one of the records, and those before it are the zone's
pub record HasRefused (fault : SourceFault) (zone : Zone) : Type 0 where
  pub before : List ZoneRecord
  pub refused : ZoneRecord
  pub after : List ZoneRecord
  pub split : zone.records ≡ before ++ refused ∷ after
  pub accepted : IsZone (record { apex = zone.apex; records = before })
  pub why : IsRefusedFor fault zone.apex refused

-- the octets begin with a source, of which a record is refused
pub record BeginsRefused (octets : List ℕ) (fault : SourceFault) : Type 0 where
  pub source : Source
  pub rest : List ℕ
  pub begins : BeginsWith octets source rest
  pub first : HasRefused fault (zone_of source)

-- they begin with a source of a zone, and go on behind it
pub record GoesOn (octets : List ℕ) : Type 0 where
  pub source : Source
  pub rest : List ℕ
  pub begins : BeginsWith octets source rest
  pub valid : IsZone (zone_of source)
  pub more : rest ≢ []

-- the form is looked at first, then the records in turn, and then what follows
abbrev pub IsFaultOf : List ℕ → SourceFault → Type 0
IsFaultOf octets Form = (source : Source) (rest : List ℕ) → BeginsWith octets source rest → ⊥
IsFaultOf octets Outside = BeginsRefused octets Outside
IsFaultOf octets Forbidden = BeginsRefused octets Forbidden
IsFaultOf octets Trailing = GoesOn octets
IsFaultOf octets OutOfMemory = ⊥
