-- What a cache holds: records, and the chains of denial records that they are of. A batch of records makes the next state.
use Rattle.std.specs.Prelude.{ℕ, ◌-◌, Bool, true, false, not, ◌&&◌, ◌==◌, nat_lt, if◌then◌else◌, List, [], ◌∷◌, ◌++◌, length, filter, fold, count_by, Option, Some, None}
use Rattle.std.specs.List.{list_any}
use Rattle.std.specs.Ordering.{nat_cmp, is_lt, ordering_then}
use Rattle.std.specs.Cmp.Lexicographic.{slice_cmp}
use Rattle.std.specs.Str.{bytes_eq}
use Rattle.std.specs.declared.cmp.Ordering.{Ordering}
use Rattle.std.specs.declared.cmp.Ordering.TheVariants.{Less, Greater}
use Rattle.dname.specs.Name.{Label, canonical_cmp}
use Rattle.dname.specs.Tests.{same_name}
use Rattle.dname.specs.Arc.{arcs_meet}
use Rattle.denial_records.specs.declared.batch.Batch.{Batch}
use Rattle.denial_records.specs.declared.set_rec.SetRec.{SetRec}
use Rattle.denial_records.specs.declared.nsec_rec.NsecRec.{NsecRec}
use Rattle.denial_records.specs.declared.nsec3_rec.Nsec3Rec.{Nsec3Rec}
use Rattle.denial_records.specs.declared.record.Record.{Record}
use Rattle.denial_records.specs.declared.record.Record.TheVariants.{Set, Nsec, Nsec3}

-- ---- chains

-- by what a zone's names are hashed: a salt, and how often more (RFC 5155, section 5)
pub record HashParameters : Type 0 where
  pub salt : List ℕ
  pub iterations : ℕ

-- the denial records that belong together in a zone: all its NSEC records, or its NSEC3 records of one salt and one number
-- of iterations (RFC 5155, section 7.1)
pub data Chain : Type 0 where
  NsecChain : Chain
  Nsec3Chain : HashParameters → Chain

-- a chain of a zone
pub record ZoneChain : Type 0 where
  pub zone : List Label
  pub chain : Chain

-- the records held, and their zones' chains, the newest first
pub record Held : Type 0 where
  pub records : List Record
  pub chains : List ZoneChain

abbrev pub nothing_held : Held
nothing_held = record { records = []; chains = [] }

abbrev pub same_parameters : HashParameters → HashParameters → Bool
same_parameters one other = bytes_eq one.salt other.salt && (one.iterations == other.iterations)

abbrev pub same_chain : Chain → Chain → Bool
same_chain NsecChain NsecChain = true
same_chain NsecChain (Nsec3Chain other) = false
same_chain (Nsec3Chain one) NsecChain = false
same_chain (Nsec3Chain one) (Nsec3Chain other) = same_parameters one other

abbrev pub same_zone_chain : ZoneChain → ZoneChain → Bool
same_zone_chain one other = same_name one.zone other.zone && same_chain one.chain other.chain

-- by what the NSEC3 record's names are hashed
abbrev pub parameters_of : Nsec3Rec → HashParameters
parameters_of nsec3 = record { salt = nsec3.salt; iterations = nsec3.iterations }

-- the chain that a denial record is of
abbrev pub chain_of : Record → Option ZoneChain
chain_of (Set set) = None
chain_of (Nsec nsec) = Some (record { zone = nsec.zone; chain = NsecChain })
chain_of (Nsec3 nsec3) =
    Some (record { zone = nsec3.zone; chain = Nsec3Chain (parameters_of nsec3) })

abbrev pub is_that_chain : ZoneChain → Option ZoneChain → Bool
is_that_chain chain None = false
is_that_chain chain (Some other) = same_zone_chain chain other

abbrev pub is_of_chain : ZoneChain → Record → Bool
is_of_chain chain item = is_that_chain chain (chain_of item)

-- ---- records

-- the apex of the zone that signed the record
abbrev pub zone_of : Record → List Label
zone_of (Set set) = set.zone
zone_of (Nsec nsec) = nsec.zone
zone_of (Nsec3 nsec3) = nsec3.zone

-- the moment from which the record may not be used
abbrev pub expiry_of : Record → ℕ
expiry_of (Set set) = set.expiry
expiry_of (Nsec nsec) = nsec.expiry
expiry_of (Nsec3 nsec3) = nsec3.expiry

-- a record whose expiry is now is gone
abbrev pub is_usable : ℕ → Record → Bool
is_usable now item = nat_lt now (expiry_of item)

-- ---- what a new record takes the place of

-- of a set of its zone, owner name and type
abbrev pub set_displaces : SetRec → SetRec → Bool
set_displaces new old =
    same_name new.zone old.zone && (same_name new.owner old.owner && (new.rtype == old.rtype))

-- of an NSEC record of its zone whose arc meets its own
abbrev pub nsec_displaces : NsecRec → NsecRec → Bool
nsec_displaces new old =
    same_name new.zone old.zone && arcs_meet canonical_cmp new.owner new.next old.owner old.next

-- of an NSEC3 record of its zone and chain whose arc meets its own
abbrev pub nsec3_displaces : Nsec3Rec → Nsec3Rec → Bool
nsec3_displaces new old =
    same_name new.zone old.zone
    && (same_parameters (parameters_of new) (parameters_of old)
    && arcs_meet (slice_cmp nat_cmp) new.hash new.next old.hash old.next)

abbrev pub displaces : Record → Record → Bool
displaces (Set new) (Set old) = set_displaces new old
displaces (Set new) (Nsec old) = false
displaces (Set new) (Nsec3 old) = false
displaces (Nsec new) (Set old) = false
displaces (Nsec new) (Nsec old) = nsec_displaces new old
displaces (Nsec new) (Nsec3 old) = false
displaces (Nsec3 new) (Set old) = false
displaces (Nsec3 new) (Nsec old) = false
displaces (Nsec3 new) (Nsec3 old) = nsec3_displaces new old

-- ---- the order of keys: sets first, by zone, owner name and type; then denial records by zone, in each zone first the NSEC
-- records by owner name, then the NSEC3 records by iterations, salt and hash

abbrev pub set_key_cmp : SetRec → SetRec → Ordering
set_key_cmp set other =
    ordering_then (canonical_cmp set.zone other.zone)
    (ordering_then (canonical_cmp set.owner other.owner) (nat_cmp set.rtype other.rtype))

abbrev pub nsec_key_cmp : NsecRec → NsecRec → Ordering
nsec_key_cmp nsec other =
    ordering_then (canonical_cmp nsec.zone other.zone) (canonical_cmp nsec.owner other.owner)

abbrev pub nsec3_key_cmp : Nsec3Rec → Nsec3Rec → Ordering
nsec3_key_cmp nsec3 other =
    ordering_then (canonical_cmp nsec3.zone other.zone)
    (ordering_then (nat_cmp nsec3.iterations other.iterations)
    (ordering_then (slice_cmp nat_cmp nsec3.salt other.salt)
    (slice_cmp nat_cmp nsec3.hash other.hash)))

abbrev pub key_cmp : Record → Record → Ordering
key_cmp (Set set) (Set other) = set_key_cmp set other
key_cmp (Set set) (Nsec other) = Less
key_cmp (Set set) (Nsec3 other) = Less
key_cmp (Nsec nsec) (Set other) = Greater
key_cmp (Nsec nsec) (Nsec other) = nsec_key_cmp nsec other
key_cmp (Nsec nsec) (Nsec3 other) = ordering_then (canonical_cmp nsec.zone other.zone) Less
key_cmp (Nsec3 nsec3) (Set other) = Greater
key_cmp (Nsec3 nsec3) (Nsec other) = ordering_then (canonical_cmp nsec3.zone other.zone) Greater
key_cmp (Nsec3 nsec3) (Nsec3 other) = nsec3_key_cmp nsec3 other

-- ---- a full cache

abbrev pub most_records : ℕ
most_records = 131072

-- what expires first goes first, of several with one expiry the first in the order of keys
abbrev pub goes_before : Record → Record → Bool
goes_before item other =
    is_lt (ordering_then (nat_cmp (expiry_of item) (expiry_of other)) (key_cmp item other))

-- as many records go as there are too many: a record goes where fewer than that go before it
abbrev pub goes : List Record → Record → Bool
goes records item =
    nat_lt (count_by (λ other. goes_before other item) records) (length records - most_records)

-- ---- a batch

-- the chains of which a record is held
abbrev pub chains_held : List Record → List ZoneChain → List ZoneChain
chains_held records chains = filter (λ chain. list_any (is_of_chain chain) records) chains

-- the records for which the test holds, with their chains
abbrev pub held_where : (Record → Bool) → Held → Held
held_where test held = record {
  records = filter test held.records;
  chains = chains_held (filter test held.records) held.chains;
}

-- without a chain and all its records
abbrev pub without_chain : ZoneChain → Held → Held
without_chain chain held = record {
  records = filter (λ item. not (is_of_chain chain item)) held.records;
  chains = filter (λ other. not (same_zone_chain chain other)) held.chains;
}

-- the third of a list
abbrev pub third_of : {A : Type 0} → List A → Option A
third_of [] = None
third_of (x ∷ []) = None
third_of (x ∷ y ∷ []) = None
third_of (x ∷ y ∷ z ∷ rest) = Some z

abbrev pub without_third : Option ZoneChain → Held → Held
without_third None held = held
without_third (Some third) held = without_chain third held

-- a chain that isn't held comes first, and its zone's third chain goes
abbrev pub with_new_chain : ZoneChain → Held → Held
with_new_chain new held =
    without_third (third_of (filter (λ chain. same_name chain.zone new.zone) (new ∷ held.chains)))
    (record { records = held.records; chains = new ∷ held.chains })

abbrev pub with_chain : Option ZoneChain → Held → Held
with_chain None held = held
with_chain (Some new) held =
    if list_any (same_zone_chain new) held.chains then held else with_new_chain new held

-- the record is put last, in the place of those that it displaces
abbrev pub held_with : Held → Record → Held
held_with held new =
    with_chain (chain_of new) (record {
      records = filter (λ old. not (displaces new old)) held.records ++ new ∷ [];
      chains = held.chains;
    })

-- without what is too much
abbrev pub within_limit : Held → Held
within_limit held = held_where (λ item. not (goes held.records item)) held

-- what has expired goes, then the batch's records come in order, and then what is too much goes
abbrev pub held_after : Held → Batch → Held
held_after held batch =
    within_limit (fold held_with (held_where (is_usable batch.now) held) batch.records)

-- after all batches, in order
abbrev pub held_of : List Batch → Held
held_of batches = fold held_after nothing_held batches
