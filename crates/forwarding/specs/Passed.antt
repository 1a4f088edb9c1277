-- Names that are the resolver's own: what is at or below one of them is always asked, and nothing of it, nor that leads there, is
-- stored.
use Rattle.std.specs.Prelude.{◌≡◌, ℕ, Bool, false, not, ◌||◌, ◌==◌, if◌then◌else◌, List, [], ◌∷◌, map, filter, Option, Some, None}
use Rattle.std.specs.List.{list_any}
use Rattle.dname.specs.Name.{Label}
use Rattle.dname.specs.NameData.{name_in, one_name_in}
use Rattle.dname.specs.Tests.{is_under}
use Rattle.dname.specs.declared.types.TheConstants.{CNAME_TYPE, DNAME_TYPE}
use Rattle.denial_records.specs.declared.batch.Batch.{Batch}
use Rattle.denial_records.specs.declared.record.Record.{Record}
use Rattle.denial_records.specs.declared.set_rec.SetRec.{SetRec}
use Rattle.denial_records.specs.declared.record.Record.TheVariants.{Set, Nsec, Nsec3}

-- each of the octets is the wire form of a name, and these are they, in order
abbrev pub AreNamesOf : List (List ℕ) → List (List Label) → Type 0
AreNamesOf octets names = map name_in octets ≡ map Some names

-- the name is at or below one of those that are passed
abbrev pub is_passed : List (List Label) → List Label → Bool
is_passed passed name = list_any (λ top. is_under name top) passed

-- a passed name is at or below the name
abbrev pub is_above_passed : List (List Label) → List Label → Bool
is_above_passed passed name = list_any (λ top. is_under top name) passed

-- the name that the set's one record has as its data is such
abbrev pub is_target : (List Label → Bool) → Option (List Label) → Bool
is_target test None = false
is_target test (Some target) = test target

-- An alias leads to its target alone. A redirection leads the names below its owner to those below its target (RFC 6672, section
-- 2.2), some of which are passed where the target is above a passed name
abbrev pub leads_to_passed : List (List Label) → SetRec → Bool
leads_to_passed passed set =
    let target = one_name_in set.items in
    if set.rtype == CNAME_TYPE then is_target (is_passed passed) target
    else (if set.rtype == DNAME_TYPE
    then is_target (λ name. is_passed passed name || is_above_passed passed name) target else false)

-- What of a batch isn't stored: held, it could deny a passed name, or lead to one without asking. An NSEC3 record, whose owner is a
-- hash, stands in its zone
abbrev pub is_left_out : List (List Label) → Record → Bool
is_left_out passed (Set set) = is_passed passed set.owner || leads_to_passed passed set
is_left_out passed (Nsec nsec) = is_passed passed nsec.owner
is_left_out passed (Nsec3 nsec3) = is_passed passed nsec3.zone

-- a batch that has records
abbrev pub some_batch : Batch → List Record → Option Batch
some_batch batch [] = None
some_batch batch (first ∷ more) = Some (record batch { records = first ∷ more })

-- the records that are stored, if there are any
abbrev pub stored_of : List (List Label) → Batch → Option Batch
stored_of passed batch = some_batch batch (filter (λ kept. not (is_left_out passed kept)) batch.records)
