-- What a kept record says of its zone.
use Rattle.std.specs.Prelude.{List}
use Rattle.dname.specs.Name.{Label}
use Rattle.denial_records.specs.declared.set_rec.SetRec.{SetRec}
use Rattle.denial_records.specs.declared.nsec_rec.NsecRec.{NsecRec}
use Rattle.denial_records.specs.declared.nsec3_rec.Nsec3Rec.{Nsec3Rec}
use Rattle.denial_records.specs.declared.record.Record.{Record}
use Rattle.denial_records.specs.declared.record.Record.TheVariants.{Set, Nsec, Nsec3}
use Rattle.zone_meaning.specs.Zone.{Zone}
use Rattle.zone_meaning.specs.Consistent.{SetPart, NsecPart, IsConsistentSet, IsConsistentNsec}
use Rattle.zone_meaning.specs.Hashed.{Nsec3Part, IsConsistentNsec3, IsClashFree}
use Rattle.cache_meaning.specs.Held.{parameters_of}
use Rattle.cache_meaning.specs.Evidence.{hash_by}

abbrev pub set_part : SetRec → SetPart
set_part set = record { zone = set.zone; owner = set.owner; rtype = set.rtype; items = set.items }

abbrev pub nsec_part : NsecRec → NsecPart
nsec_part nsec = record {
  zone = nsec.zone;
  owner = nsec.owner;
  next = nsec.next;
  types = nsec.types;
}

-- its names are hashed by the record's own salt and iterations
abbrev pub nsec3_part : Nsec3Rec → Nsec3Part
nsec3_part nsec3 = record {
  zone = nsec3.zone;
  hash = hash_by (parameters_of nsec3);
  owner = nsec3.hash;
  next = nsec3.next;
  opt_out = nsec3.opt_out;
  types = nsec3.types;
}

-- the record is true of the zone (RFC 4035, sections 2.2 and 2.3; RFC 5155, section 7.1)
abbrev pub IsTrueOf : Zone → Record → Type 0
IsTrueOf zone (Set set) = IsConsistentSet zone (set_part set)
IsTrueOf zone (Nsec nsec) = IsConsistentNsec zone (nsec_part nsec)
IsTrueOf zone (Nsec3 nsec3) = IsConsistentNsec3 zone (nsec3_part nsec3)

-- by its hash no name of the zone is taken for another of those that a question for the name turns on
abbrev pub IsClashFreeFor : Zone → List Label → Record → Type 0
IsClashFreeFor zone name (Set set) = Unit {0}
IsClashFreeFor zone name (Nsec nsec) = Unit {0}
IsClashFreeFor zone name (Nsec3 nsec3) = IsClashFree zone (hash_by (parameters_of nsec3)) name
