-- What the steps of the reader tell of the front of octets. No public clause cites this module.
use Rattle.std.specs.Prelude.{◌≡◌, ℕ, ◌<◌, ◌≤◌, ◌^◌, List, ◌++◌, length, map, Option, Some, None}
use Rattle.std.specs.List.{All, flat_map}
use Rattle.byteorder.specs.Endian.{big_bytes}
use Rattle.dname.specs.Name.{Label}
use Rattle.dname.specs.Read.{IsWireForm}
use Rattle.zone_meaning.specs.Zone.{Zone, ZoneRecord, IsZone}
use Rattle.audit_source.specs.Source.{Entry, IsEntry, HasRefused, counted, entry_spelling, name_of, record_of, run_spelling}
use Rattle.audit_source.specs.declared.reading.TheConstants.{MOST_RECORDS}
use Rattle.audit_source.specs.declared.source_fault.SourceFault.{SourceFault}

-- a number, in so many octets
pub record HasNumber (size : ℕ) (octets : List ℕ) (number : ℕ) (rest : List ℕ) : Type 0 where
  pub spelled : octets ≡ big_bytes size number ++ rest
  pub fits : number < 256 ^ size

-- octets after their number
pub record HasCounted (size : ℕ) (octets piece rest : List ℕ) : Type 0 where
  pub spelled : octets ≡ counted size piece ++ rest
  pub fits : length piece < 256 ^ size

-- a name's wire form after its length
pub record HasName (octets : List ℕ) (name : List Label) (rest : List ℕ) : Type 0 where
  pub form : List ℕ
  pub wire : IsWireForm form
  pub spelled : octets ≡ counted 2 form ++ rest
  pub name_is : name ≡ name_of form

-- the apex, and the number of records
pub record HasHead (octets : List ℕ) (apex : List Label) (count : ℕ) (rest : List ℕ) : Type 0 where
  pub form : List ℕ
  pub wire : IsWireForm form
  pub few : count ≤ MOST_RECORDS
  pub spelled : octets ≡ (counted 2 form ++ big_bytes 4 count) ++ rest
  pub apex_is : apex ≡ name_of form

-- a record
pub record HasEntry (octets : List ℕ) (r : ZoneRecord) (rest : List ℕ) : Type 0 where
  pub entry : Entry
  pub valid : IsEntry entry
  pub spelled : octets ≡ entry_spelling entry ++ rest
  pub record_is : r ≡ record_of entry

-- records, one after the other
pub record HasEntries (octets : List ℕ) (entries : List Entry) (rest : List ℕ) : Type 0 where
  pub valid : All IsEntry entries
  pub spelled : octets ≡ flat_map entry_spelling entries ++ rest

-- a run
pub record HasRun (octets input output rest : List ℕ) : Type 0 where
  pub spelled : octets ≡ run_spelling input output ++ rest
  pub input_fits : length input < 2 ^ 32
  pub output_fits : length output < 2 ^ 32

-- ---- the zone's records

-- all of the records were put into the zone, or one is refused
abbrev pub AreTaken : List Label → List ZoneRecord → Zone → Option SourceFault → Type 0
AreTaken apex records zone None = (zone ≡ record { apex = apex; records = records }) × IsZone zone
AreTaken apex records zone (Some fault) = (zone.apex ≡ apex) × HasRefused fault (record { apex = apex; records = records })

-- so many entries are read up to here
pub record HasTaken (octets : List ℕ) (apex : List Label) (count : ℕ) (zone : Zone) (refused : Option SourceFault) (rest : List ℕ) : Type 0 where
  pub entries : List Entry
  pub number : length entries ≡ count
  pub read : HasEntries octets entries rest
  pub taken : AreTaken apex (map record_of entries) zone refused
