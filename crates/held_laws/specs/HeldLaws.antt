-- What holds of every state that batches of records make.
use Rattle.std.specs.Prelude.{◌≡◌, ◌↔◌, IsTrue, ℕ, false, List, Some}
use Rattle.std.specs.List.{Contains, AllPairs}
use Rattle.std.specs.Ordering.{nat_cmp}
use Rattle.std.specs.Cmp.Lexicographic.{slice_cmp}
use Rattle.dname.specs.Name.{Label, canonical_cmp}
use Rattle.dname.specs.Arc.{arcs_meet}
use Rattle.denial_records.specs.declared.set_rec.SetRec.{SetRec}
use Rattle.denial_records.specs.declared.nsec_rec.NsecRec.{NsecRec}
use Rattle.denial_records.specs.declared.nsec3_rec.Nsec3Rec.{Nsec3Rec}
use Rattle.denial_records.specs.declared.record.Record.{Record}
use Rattle.denial_records.specs.declared.record.Record.TheVariants.{Set, Nsec, Nsec3}
use Rattle.cache_meaning.specs.Held.{Held, HashParameters, ZoneChain, same_zone_chain, chain_of, parameters_of, is_usable, displaces}
use Rattle.cache_meaning.specs.Zones.{zone_for, chains_of, set_at, nsec_at, nsec3_at}

-- the record hasn't expired
abbrev pub IsUsableAt : ℕ → Record → Type 0
IsUsableAt now item = IsTrue (is_usable now item)

-- of each listed chain a record is held
abbrev pub EachChainHasARecord : Held → Type 0
EachChainHasARecord held =
    (chain : ZoneChain) → Contains held.chains chain
    → (item : Record) × Contains held.records item × (chain_of item ≡ Some chain)

-- the chain of each held denial record is listed
abbrev pub EachRecordIsListed : Held → Type 0
EachRecordIsListed held =
    (item : Record) (chain : ZoneChain) → Contains held.records item → chain_of item ≡ Some chain
    → Contains held.chains chain

-- neither of the two takes the other's place
abbrev pub IsApart : Record → Record → Type 0
IsApart one other = (displaces one other ≡ false) × (displaces other one ≡ false)

-- no two records of the list
abbrev pub NoneDisplaces : List Record → Type 0
NoneDisplaces records = AllPairs IsApart records

-- sets of one zone, owner name and type are one
abbrev pub SetsOnce : List Record → Type 0
SetsOnce records =
    (one other : SetRec) → Contains records (Set one) → Contains records (Set other)
    → one.zone ≡ other.zone → one.owner ≡ other.owner → one.rtype ≡ other.rtype → one ≡ other

-- NSEC records of one zone whose arcs meet are one
abbrev pub NsecsOnce : List Record → Type 0
NsecsOnce records =
    (one other : NsecRec) → Contains records (Nsec one) → Contains records (Nsec other)
    → one.zone ≡ other.zone
    → IsTrue (arcs_meet canonical_cmp one.owner one.next other.owner other.next)
    → one ≡ other

-- NSEC3 records of one zone, salt and number of iterations whose arcs meet are one
abbrev pub Nsec3sOnce : List Record → Type 0
Nsec3sOnce records =
    (one other : Nsec3Rec) → Contains records (Nsec3 one) → Contains records (Nsec3 other)
    → one.zone ≡ other.zone → parameters_of one ≡ parameters_of other
    → IsTrue (arcs_meet (slice_cmp nat_cmp) one.hash one.next other.hash other.next)
    → one ≡ other

-- no two chains of the list are the same
abbrev pub EachListedOnce : List ZoneChain → Type 0
EachListedOnce chains = AllPairs (λ one other. same_zone_chain one other ≡ false) chains

-- the other state holds the same records, whatever their order, and lists each zone's chains in the same order
pub record IsReordered (held other : Held) : Type 0 where
  pub records : (item : Record) → Contains held.records item ↔ Contains other.records item
  pub chains : (zone : List Label) → chains_of held zone ≡ chains_of other zone

-- whatever is looked up in the one state and the other, they give the same
pub record SameLookups (held other : Held) : Type 0 where
  pub zone : (name : List Label) (qtype : ℕ) → zone_for held name qtype ≡ zone_for other name qtype
  pub chains : (zone : List Label) → chains_of held zone ≡ chains_of other zone
  pub set :
      (zone owner : List Label) (rtype : ℕ)
      → set_at held zone owner rtype ≡ set_at other zone owner rtype
  pub nsec : (zone name : List Label) → nsec_at held zone name ≡ nsec_at other zone name
  pub nsec3 :
      (zone : List Label) (parameters : HashParameters) (hash : List ℕ)
      → nsec3_at held zone parameters hash ≡ nsec3_at other zone parameters hash
