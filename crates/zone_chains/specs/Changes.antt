-- No public clause cites this module: what a change makes of a zone's chains, as the code makes it.
use Rattle.std.specs.Prelude.{◌≡◌, ◌⊎◌, ℕ, not, if◌then◌else◌, List, [], ◌∷◌, filter, Some}
use Rattle.std.specs.List.{Contains}
use Rattle.std.specs.Ordering.{nat_cmp}
use Rattle.std.specs.Cmp.Lexicographic.{slice_cmp}
use Rattle.dname.specs.Name.{canonical_cmp}
use Rattle.denial_records.specs.declared.record.Record.{Record}
use Rattle.cache_meaning.specs.Held.{Chain, NsecChain, Nsec3Chain, ZoneChain, chain_of, displaces, is_of_chain}
use Rattle.range_index.specs.Arcs.{FailInRuns, starts_elsewhere, arcs_with}
use Rattle.zone_chains.specs.Zone.{OneChain}
use Rattle.zone_chains.specs.Views.{nsec_start, nsec_end, nsec3_start, nsec3_end}

abbrev pub records_with : Chain → Record → List Record → List Record
records_with NsecChain new records = arcs_with canonical_cmp nsec_start nsec_end new records
records_with (Nsec3Chain parameters) new records = arcs_with (slice_cmp nat_cmp) nsec3_start nsec3_end new records

abbrev pub records_without : Chain → Record → List Record → List Record
records_without NsecChain item records = filter (starts_elsewhere canonical_cmp nsec_start (nsec_start item)) records
records_without (Nsec3Chain parameters) item records =
    filter (starts_elsewhere (slice_cmp nat_cmp) nsec3_start (nsec3_start item)) records

abbrev pub alone : ZoneChain → Record → OneChain
alone chain new = record { chain = chain; records = new ∷ [] }

abbrev pub joined : Record → OneChain → OneChain
joined new each = record { chain = each.chain; records = records_with each.chain.chain new each.records }

abbrev pub parted : Record → OneChain → OneChain
parted item each = record { chain = each.chain; records = records_without each.chain.chain item each.records }

-- the record comes, of that chain
abbrev pub came : ZoneChain → Record → List OneChain → List OneChain
came chain new [] = alone chain new ∷ []
came chain new (only ∷ []) =
    if is_of_chain only.chain new then joined new only ∷ [] else alone chain new ∷ only ∷ []
came chain new (newer ∷ older ∷ rest) =
    if is_of_chain newer.chain new
    then joined new newer ∷ older ∷ rest
    else (if is_of_chain older.chain new then newer ∷ joined new older ∷ rest else alone chain new ∷ newer ∷ [])

-- one of the chains is the new record's, which displaces its records at the places from one up to another, and from the last on
pub record DisplacesIn (new : Record) (chains : List OneChain) (each : OneChain) (from to last : ℕ) : Type 0 where
  pub listed : Contains chains each
  pub its : chain_of new ≡ Some each.chain
  pub runs : FailInRuns (λ old. not (displaces new old)) each.records from to last

-- the record goes
abbrev pub went : Record → List OneChain → List OneChain
went item [] = []
went item (only ∷ []) = parted item only ∷ []
went item (newer ∷ older ∷ rest) =
    if is_of_chain newer.chain item
    then parted item newer ∷ older ∷ rest
    else newer ∷ parted item older ∷ rest

-- the record is of one of the chains
abbrev pub OneHas : Record → List OneChain → Type 0
OneHas item [] = ⊥
OneHas item (only ∷ []) = chain_of item ≡ Some only.chain
OneHas item (newer ∷ older ∷ rest) = (chain_of item ≡ Some newer.chain) ⊎ (chain_of item ≡ Some older.chain)
