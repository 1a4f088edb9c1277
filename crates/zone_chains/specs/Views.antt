-- No public clause cites this module: what the code's values are, in the words of the definitions.
use Rattle.std.specs.Prelude.{◌≡◌, ℕ, Bool, false, List, [], ◌∷◌, replicate, Some}
use Rattle.std.specs.List.{All}
use Rattle.std.specs.Ordering.{nat_cmp}
use Rattle.std.specs.Cmp.Lexicographic.{slice_cmp}
use Rattle.dname.specs.Name.{Label, canonical_cmp}
use Rattle.denial_records.specs.declared.record.Record.{Record}
use Rattle.denial_records.specs.declared.record.Record.TheVariants.{Set, Nsec, Nsec3}
use Rattle.cache_meaning.specs.Held.{Chain, NsecChain, Nsec3Chain, ZoneChain, chain_of, same_zone_chain}
use Rattle.range_index.specs.Arcs.{is_apart, IsArcs}
use Rattle.cache_meaning.specs.declared.place.Place.{Place}
use Rattle.cache_meaning.specs.declared.place.Place.TheVariants.{Start, Inside}
use Rattle.range_index.specs.declared.place.Place.{Place as RingPlace}
use Rattle.range_index.specs.declared.place.Place.TheVariants as ring
use Rattle.zone_chains.specs.Zone.{OneChain, IsOfItsChain}

-- ---- records as spans

abbrev pub IsNsec : Record → Type 0
IsNsec (Set set) = ⊥
IsNsec (Nsec nsec) = Unit {0}
IsNsec (Nsec3 nsec3) = ⊥

abbrev pub IsNsec3 : Record → Type 0
IsNsec3 (Set set) = ⊥
IsNsec3 (Nsec nsec) = ⊥
IsNsec3 (Nsec3 nsec3) = Unit {0}

abbrev pub IsDenial : Record → Type 0
IsDenial (Set set) = ⊥
IsDenial (Nsec nsec) = Unit {0}
IsDenial (Nsec3 nsec3) = Unit {0}

-- where an NSEC record's arc starts and ends; another record has its owner or zone there
abbrev pub nsec_start : Record → List Label
nsec_start (Set set) = set.owner
nsec_start (Nsec nsec) = nsec.owner
nsec_start (Nsec3 nsec3) = nsec3.zone

abbrev pub nsec_end : Record → List Label
nsec_end (Set set) = set.owner
nsec_end (Nsec nsec) = nsec.next
nsec_end (Nsec3 nsec3) = nsec3.zone

-- what stands for the hash of a record that has none
abbrev pub no_hash : List ℕ
no_hash = replicate 20 0

-- where an NSEC3 record's arc starts and ends
abbrev pub nsec3_start : Record → List ℕ
nsec3_start (Set set) = no_hash
nsec3_start (Nsec nsec) = no_hash
nsec3_start (Nsec3 nsec3) = nsec3.hash

abbrev pub nsec3_end : Record → List ℕ
nsec3_end (Set set) = no_hash
nsec3_end (Nsec nsec) = no_hash
nsec3_end (Nsec3 nsec3) = nsec3.next

-- the records are of the chain
abbrev pub AreOf : ZoneChain → List Record → Type 0
AreOf chain records = All (λ item. chain_of item ≡ Some chain) records

abbrev pub AreNsec3s : List Record → Type 0
AreNsec3s records = All IsNsec3 records

-- where in an arc a key lies
abbrev pub placed : RingPlace → Place
placed ring.Start = Start
placed ring.Inside = Inside

-- ---- chains

-- the record is an NSEC or an NSEC3 record, as the chain's are
abbrev pub IsOfKind : Chain → Record → Type 0
IsOfKind NsecChain item = IsNsec item
IsOfKind (Nsec3Chain parameters) item = IsNsec3 item

-- the arcs of two records of the chain don't meet
abbrev pub apart_in : Chain → Record → Record → Bool
apart_in NsecChain one other = is_apart canonical_cmp nsec_start nsec_end one other
apart_in (Nsec3Chain parameters) one other = is_apart (slice_cmp nat_cmp) nsec3_start nsec3_end one other

-- the records of the chain are in order, and their arcs don't meet
abbrev pub AreArcs : Chain → List Record → Type 0
AreArcs NsecChain records = IsArcs canonical_cmp nsec_start nsec_end records
AreArcs (Nsec3Chain parameters) records = IsArcs (slice_cmp nat_cmp) nsec3_start nsec3_end records

pub record IsChain (each : OneChain) : Type 0 where
  pub of_chain : IsOfItsChain each
  pub arcs : AreArcs each.chain.chain each.records

pub record IsChainOf (apex : List Label) (each : OneChain) : Type 0 where
  pub here : each.chain.zone ≡ apex
  pub chain : IsChain each

-- they are chains of the zone, and two of them at most
abbrev pub AreChains : List Label → List OneChain → Type 0
AreChains apex [] = Unit {0}
AreChains apex (only ∷ []) = IsChainOf apex only
AreChains apex (newer ∷ older ∷ []) =
    IsChainOf apex newer × IsChainOf apex older × (same_zone_chain newer.chain older.chain ≡ false)
AreChains apex (newer ∷ older ∷ third ∷ rest) = ⊥
