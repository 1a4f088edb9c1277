-- The names that exist in a zone, by the hashes of one salt and number of iterations. No public clause cites this module.
use Rattle.std.specs.Prelude.{◌≡◌, ◌≢◌, ◌≤◌, ◌<◌, ◌↔◌, ◌⊎◌, ◌-◌, ℕ, List, [], ◌∷◌, length, get_or}
use Rattle.std.specs.List.{All, Contains}
use Rattle.std.specs.List.Sorted.{IsSortedBy}
use Rattle.std.specs.Ordering.{is_lt}
use denote.Ref.{Bor}
use Rattle.dname.specs.Name.{Label, IsUnder, asterisk}
use Rattle.nsec3_hash.specs.IteratedHash.{hash_of}
use Rattle.zone_meaning.specs.Zone.{Zone, Exists}
use Rattle.zone_meaning.specs.Hashed.{hash_cmp}
use Rattle.zone_meaning.specs.Consistent.{TypesAgree}
use Rattle.zone_index.specs.Entries.{AreRuns}
use Rattle.zone_index.specs.Live.{AreLive}
use Rattle.zone_index.specs.declared.entry.Entry.{Entry}
use Rattle.zone_index.specs.declared.hash_table.HashTable.{HashTable}
use Rattle.zone_index.specs.declared.hash_table.HashedName.{HashedName}

-- the name is one of them
abbrev pub IsNamed : List HashedName → List Label → Type 0
IsNamed names name = (e : HashedName) × Contains names e × (e.name ≡ name)

-- each has its name's hash
abbrev pub HaveHashes : List ℕ → ℕ → List HashedName → Type 0
HaveHashes salt iterations names = (e : HashedName) → Contains names e → e.hash ≡ hash_of e.name salt iterations

abbrev pub AreByHash : List HashedName → Type 0
AreByHash names = IsSortedBy (λ x y. is_lt (hash_cmp x.hash y.hash)) names

-- the table has the names that exist in the zone, by this salt and so many iterations
pub record IsTableOf (zone : Zone) (salt : List ℕ) (iterations : ℕ) (table : HashTable) : Type 0 where
  pub salt_is : table.salt ≡ salt
  pub iterations_is : table.iterations ≡ iterations
  pub named : (name : List Label) → IsNamed table.names.items name ↔ Exists zone name
  pub hashed : HaveHashes salt iterations table.names.items
  pub sorted : AreByHash table.names.items

-- a name of the table has the hash of this one and is another
abbrev pub HasClash : HashTable → List Label → Type 0
HasClash table name =
    (e : HashedName) × Contains table.names.items e × (e.hash ≡ hash_of name table.salt table.iterations) × (e.name ≢ name)

-- of the ancestors of a live name, those with so few labels are those of the live name before it
abbrev pub AreKnown : List (List Label) → ℕ → ℕ → ℕ → Type 0
AreKnown live at apex from =
    (name : List Label) → IsUnder (get_or live at []) name → apex ≤ length name → length name < from
    → (0 < at) × IsUnder (get_or live (at - 1) []) name

-- the name has just these types
pub record HasTypes (zone : Zone) (name : List Label) (types : List ℕ) : Type 0 where
  pub agree : TypesAgree zone name types

-- a name of the zone that the table has under this hash has just these types
abbrev pub HasNamed : Zone → HashTable → List ℕ → List ℕ → Type 0
HasNamed zone table hash types =
    (e : HashedName) × Contains table.names.items e × (e.hash ≡ hash) × HasTypes zone e.name types

-- of the names that a question for one turns on: a name of the table is taken for its ancestor, or for the source of
-- synthesis below that
abbrev pub Clashes : HashTable → List Label → List Label → Type 0
Clashes table name above = HasClash table above ⊎ ((name ≢ above) × HasClash table (asterisk ∷ above))

-- the table is by this salt and so many iterations
pub record IsOfChain (salt : List ℕ) (iterations : ℕ) (table : HashTable) : Type 0 where
  pub salt_is : table.salt ≡ salt
  pub iterations_is : table.iterations ≡ iterations

-- each of the tables has the names that exist in the zone
abbrev pub AreTables : Zone → List HashTable → Type 0
AreTables zone tables = All (λ table. IsTableOf zone table.salt table.iterations table) tables

-- what a search has made of the zone: its live names, the entries of each, and tables of its names
pub record IsSearch (zone : Zone) (live : List (List Label)) (runs : List (Bor (List Entry))) (tables : List HashTable) : Type 0 where
  pub live_is : AreLive zone live
  pub runs_are : AreRuns zone live runs
  pub tables_are : AreTables zone tables
