-- The denial records of one zone that are held, chain by chain.
use Rattle.std.specs.Prelude.{◌≡◌, ◌≤◌, ℕ, length, nat_lt, Bool, false, not, if◌then◌else◌, List, ◌∷◌, take, map, Option, Some, None}
use Rattle.std.specs.List.{All, AllPairs, Contains, flat_map, list_any}
use Rattle.dname.specs.Name.{Label}
use Rattle.denial_records.specs.declared.record.Record.{Record}
use Rattle.denial_records.specs.declared.record.Record.TheVariants.{Set, Nsec, Nsec3}
use Rattle.cache_meaning.specs.Held.{ZoneChain, same_zone_chain, chain_of, is_of_chain, displaces, third_of}
use Rattle.range_index.specs.Arcs.{FailInRuns}

-- a chain of a zone, and its records that are held
pub record OneChain : Type 0 where
  pub chain : ZoneChain
  pub records : List Record

-- a zone's chains, the newest first
pub record OneZone : Type 0 where
  pub apex : List Label
  pub chains : List OneChain

abbrev pub chains_in : OneZone → List ZoneChain
chains_in zone = map (λ each. each.chain) zone.chains

-- the records of all its chains
abbrev pub records_in : OneZone → List Record
records_in zone = flat_map (λ each. each.records) zone.chains

-- the records are of their chain
abbrev pub IsOfItsChain : OneChain → Type 0
IsOfItsChain each = All (λ item. chain_of item ≡ Some each.chain) each.records

-- what holds of the chains of a zone
pub record IsOneZone (zone : OneZone) : Type 0 where
  pub two : length zone.chains ≤ 2
  pub once : AllPairs (λ one other. same_zone_chain one other ≡ false) (chains_in zone)
  pub here : All (λ chain. chain.zone ≡ zone.apex) (chains_in zone)
  pub of_chain : All IsOfItsChain zone.chains
  pub apart : AllPairs (λ one other. displaces one other ≡ false) (records_in zone)

-- the record is a denial record of the zone
abbrev pub IsDenialOf : List Label → Record → Type 0
IsDenialOf apex (Set set) = ⊥
IsDenialOf apex (Nsec nsec) = nsec.zone ≡ apex
IsDenialOf apex (Nsec3 nsec3) = nsec3.zone ≡ apex

-- what the choice gives of a record among them, if it gives anything of any
abbrev pub IsChosen : {A : Type 0} → (Record → Option A) → List Record → Option A → Type 0
IsChosen choose records None = (item : Record) → Contains records item → choose item ≡ None
IsChosen choose records (Some found) =
    (item : Record) × Contains records item × (choose item ≡ Some found)

-- ---- a record comes

-- the chain isn't among them
abbrev pub is_new_to : List ZoneChain → Option ZoneChain → Bool
is_new_to chains None = false
is_new_to chains (Some chain) = not (list_any (same_zone_chain chain) chains)

-- the chains with a record's chain, which comes first where it is new; two stay
abbrev pub chains_with : List ZoneChain → Option ZoneChain → List ZoneChain
chains_with chains None = chains
chains_with chains (Some chain) =
    if list_any (same_zone_chain chain) chains then chains else take 2 (chain ∷ chains)

-- the chain that goes for it
abbrev pub third_for : List ZoneChain → Option ZoneChain → Option ZoneChain
third_for chains None = None
third_for chains (Some chain) =
    if list_any (same_zone_chain chain) chains then None else third_of (chain ∷ chains)

-- the chain is the new record's, which displaces its records at the places from one up to another, and from the last on
pub record DisplacesAt (new : Record) (zone : OneZone) (each : OneChain) (from to last : ℕ) : Type 0 where
  pub listed : Contains zone.chains each
  pub its : chain_of new ≡ Some each.chain
  pub runs : FailInRuns (λ old. not (displaces new old)) each.records from to last

-- the record is of that chain, if there is one
abbrev pub is_of : Option ZoneChain → Record → Bool
is_of None item = false
is_of (Some chain) item = is_of_chain chain item

-- a record of the chain is held
abbrev pub has_records : OneChain → Bool
has_records each = nat_lt 0 (length each.records)
