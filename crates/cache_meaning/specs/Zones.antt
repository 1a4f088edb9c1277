-- Where a question is looked up: the zone that answers it, and the records that are held there. Expired ones are held too,
-- until a batch comes.
use Rattle.std.specs.Prelude.{IsTrue, ℕ, ◌≤◌, length, ◌&&◌, ◌==◌, if◌then◌else◌, List, [], ◌∷◌, drop, map, filter, find, Option, Some, None}
use Rattle.std.specs.List.{list_any}
use Rattle.std.specs.Ordering.{nat_cmp}
use Rattle.std.specs.Cmp.Lexicographic.{slice_cmp}
use Rattle.std.specs.Option.{option_or}
use Rattle.dname.specs.Name.{Label, canonical_cmp}
use Rattle.dname.specs.Tests.{same_name}
use Rattle.dname.specs.Arc.{arc_has}
use Rattle.dname.specs.declared.types.TheConstants.{DS_TYPE}
use Rattle.denial_records.specs.declared.set_rec.SetRec.{SetRec}
use Rattle.denial_records.specs.declared.nsec_rec.NsecRec.{NsecRec}
use Rattle.denial_records.specs.declared.nsec3_rec.Nsec3Rec.{Nsec3Rec}
use Rattle.denial_records.specs.declared.record.Record.{Record}
use Rattle.denial_records.specs.declared.record.Record.TheVariants.{Set, Nsec, Nsec3}
use Rattle.cache_meaning.specs.Held.{Held, Chain, HashParameters, same_parameters, parameters_of, zone_of}

-- a zone of a held state, by its apex
pub record HeldZone : Type 0 where
  pub held : Held
  pub apex : List Label

abbrev pub zone_in : Held → List Label → HeldZone
zone_in held apex = record { held = held; apex = apex }

-- the name and the names above it, the longest first
abbrev pub self_and_above : List Label → List (List Label)
self_and_above [] = [] ∷ []
self_and_above (label ∷ rest) = (label ∷ rest) ∷ self_and_above rest

-- the zones that may answer: a DS is the parent's, so its own name isn't among them (RFC 4035, section 3.1.4.1)
abbrev pub candidates : List Label → ℕ → List (List Label)
candidates name qtype =
    if qtype == DS_TYPE then drop 1 (self_and_above name) else self_and_above name

-- the longest of them that is the zone of a held record, also of one that has expired: a shorter zone knows nothing of
-- a zone that was there
abbrev pub zone_for : Held → List Label → ℕ → Option (List Label)
zone_for held name qtype =
    find (λ zone. list_any (λ item. same_name (zone_of item) zone) held.records)
    (candidates name qtype)

-- the zone's chains, the newest first
abbrev pub chains_of : Held → List Label → List Chain
chains_of held zone =
    map (λ each. each.chain) (filter (λ each. same_name each.zone zone) held.chains)

-- each zone has two of them at most
abbrev pub TwoChains : Held → Type 0
TwoChains held = (zone : List Label) → length (chains_of held zone) ≤ 2

-- ---- records: the one at a key

-- the first that the choice gives
abbrev pub first_of : {A B : Type 0} → (A → Option B) → List A → Option B
first_of choose [] = None
first_of choose (x ∷ xs) = option_or (choose x) (first_of choose xs)

-- the set of the zone at the owner name and type
abbrev pub as_set_at : List Label → List Label → ℕ → Record → Option SetRec
as_set_at zone owner rtype (Set set) =
    if same_name set.zone zone && (same_name set.owner owner && (set.rtype == rtype))
    then Some set
    else None
as_set_at zone owner rtype (Nsec nsec) = None
as_set_at zone owner rtype (Nsec3 nsec3) = None

abbrev pub set_at : Held → List Label → List Label → ℕ → Option SetRec
set_at held zone owner rtype = first_of (as_set_at zone owner rtype) held.records

-- the record's arc has the name
abbrev pub IsInArc : List Label → NsecRec → Type 0
IsInArc name nsec = IsTrue (arc_has canonical_cmp nsec.owner nsec.next name)

-- the NSEC record of the zone whose arc, from its owner name to the next, has the name (RFC 4034, section 4.1.1)
abbrev pub as_nsec_at : List Label → List Label → Record → Option NsecRec
as_nsec_at zone name (Set set) = None
as_nsec_at zone name (Nsec nsec) =
    if same_name nsec.zone zone && arc_has canonical_cmp nsec.owner nsec.next name
    then Some nsec
    else None
as_nsec_at zone name (Nsec3 nsec3) = None

abbrev pub nsec_at : Held → List Label → List Label → Option NsecRec
nsec_at held zone name = first_of (as_nsec_at zone name) held.records

-- the NSEC3 record of the zone and the chain whose arc, from its hash to the next, has the hash (RFC 5155, section 3.1.7)
abbrev pub as_nsec3_at : List Label → HashParameters → List ℕ → Record → Option Nsec3Rec
as_nsec3_at zone parameters hash (Set set) = None
as_nsec3_at zone parameters hash (Nsec nsec) = None
as_nsec3_at zone parameters hash (Nsec3 nsec3) =
    if same_name nsec3.zone zone
    && (same_parameters (parameters_of nsec3) parameters
    && arc_has (slice_cmp nat_cmp) nsec3.hash nsec3.next hash)
    then Some nsec3
    else None

abbrev pub nsec3_at : Held → List Label → HashParameters → List ℕ → Option Nsec3Rec
nsec3_at held zone parameters hash = first_of (as_nsec3_at zone parameters hash) held.records
