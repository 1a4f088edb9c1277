-- No public clause cites this module. Records put together as they come: piles in order of first appearance, each with the
-- records of a group, equal data as often as it comes.
use Rattle.std.specs.Prelude.{◌≡◌, ℕ, suc, ◌≤◌, ◌<◌, ◌^◌, min, Bool, ◌&&◌, ◌==◌, if◌then◌else◌, List, [], ◌∷◌, ◌++◌, length, filter, fold, map, Option, Some, None}
use Rattle.std.specs.Option.{option_map}
use Rattle.std.specs.List.{list_any}
use Rattle.std.specs.BTreeMap.{BTreeMap, get}
use Rattle.std.specs.declared.cmp.Ordering.{Ordering}
use Rattle.dname.specs.declared.types.TheConstants.{RRSIG_TYPE, IN_CLASS}
use Rattle.dnswire.specs.declared.rr.Rr.{Rr}
use Rattle.dname.specs.Tests.{each_once, same_name, same_octets}
use Rattle.intake.specs.Group.{Group, is_rrsig, covered_type, expiration_of, seconds_to, is_ahead}
use Rattle.intake.specs.Signed.{counted_ttl, least_of}
use Rattle.intake.specs.declared.key.Key.{Key}
use Rattle.intake.specs.declared.pile.Pile.{Pile}
use Rattle.intake.specs.declared.table.Table.{Table}
use Rattle.intake.specs.contracts.key.KeyOrd.TheImpl as key_ord

-- ---- one pile

-- the pile of a key's first record
abbrev pub begun : Key → ℕ → List ℕ → Pile
begun key ttl octets = record {
  owner = key.owner;
  class = key.class;
  rtype = key.rtype;
  ttl = counted_ttl ttl;
  items = octets ∷ [];
  signatures = [];
}

-- with a further record
abbrev pub joined : Pile → ℕ → List ℕ → Pile
joined pile ttl octets = record pile { ttl = min pile.ttl (counted_ttl ttl); items = pile.items ++ octets ∷ [] }

-- with a further signature
abbrev pub with_signature : Pile → List ℕ → Pile
with_signature pile octets = record pile { signatures = pile.signatures ++ octets ∷ [] }

abbrev pub has_key : Key → Pile → Bool
has_key key pile = same_name key.owner pile.owner && ((key.class == pile.class) && (key.rtype == pile.rtype))

abbrev pub key_of_pile : Pile → Key
key_of_pile pile = record { owner = pile.owner; class = pile.class; rtype = pile.rtype }

-- ---- the table

-- the place of the first that passes
abbrev pub place_of : {X : Type 0} → (X → Bool) → List X → Option ℕ
place_of test [] = None
place_of test (x ∷ xs) = if test x then Some 0 else option_map (λ place. suc place) (place_of test xs)

-- the first that passes is changed
abbrev pub changed_first : {X : Type 0} → (X → Bool) → (X → X) → List X → List X
changed_first test change [] = []
changed_first test change (x ∷ xs) = if test x then change x ∷ xs else x ∷ changed_first test change xs

-- keys compare by owner, class and type
abbrev pub key_cmp : Key → Key → Ordering
key_cmp = (key_ord.ghosts).cmp

-- each key has the place of its pile
abbrev pub HasPlaces : BTreeMap Key ℕ → List Pile → Type 0
HasPlaces places piles = (key : Key) → get key_cmp places key ≡ place_of (has_key key) piles

-- where the piles are more than eight, the map has each one's place
pub record IsTable (table : Table) : Type 0 where
  pub places : 8 < length table.piles.items → HasPlaces table.places table.piles.items

abbrev pub key_of : Rr → Key
key_of rr = record { owner = rr.owner; class = rr.class; rtype = rr.rtype }

-- with a further record
abbrev pub with_record : List Pile → Rr → List Pile
with_record piles rr =
    if list_any (has_key (key_of rr)) piles then changed_first (has_key (key_of rr)) (λ pile. joined pile rr.ttl rr.octets) piles
    else piles ++ begun (key_of rr) rr.ttl rr.octets ∷ []

-- with a further signature of the key's pile, if there is one
abbrev pub signed : Key → List ℕ → List Pile → List Pile
signed key octets piles = changed_first (has_key key) (λ pile. with_signature pile octets) piles

-- ---- all records

-- RRSIG data as a message has it (RFC 4034, section 3.1)
abbrev pub HasFixedPart : Rr → Type 0
HasFixedPart rr = rr.rtype ≡ RRSIG_TYPE → 18 ≤ length rr.octets

-- an RRSIG record of class IN whose expiration is in the future
abbrev pub is_live : ℕ → Rr → Bool
is_live now rr = is_rrsig rr && ((rr.class == IN_CLASS) && is_ahead (seconds_to (expiration_of rr) now))

-- the key of the records that it covers
abbrev pub covered_key : Rr → Key
covered_key signature = record { owner = signature.owner; class = IN_CLASS; rtype = covered_type signature }

-- with a record, if it is no RRSIG
abbrev pub with_data : List Pile → Rr → List Pile
with_data piles rr = if is_rrsig rr then piles else with_record piles rr

abbrev pub with_covering : List Pile → Rr → List Pile
with_covering piles signature = signed (covered_key signature) signature.octets piles

-- the piles of all records, and then the live signatures
abbrev pub piles_in : ℕ → List Rr → List Pile
piles_in now rrs = fold with_covering (fold with_data [] rrs) (filter (is_live now) rrs)

-- ---- the group of a pile

-- the least of the TTLs that count
abbrev pub least_ttl : List ℕ → ℕ
least_ttl ttls = least_of (2 ^ 31) (map counted_ttl ttls)

-- the pile has the group's records, and its signatures where its class is IN
pub record IsPileOf (group : Group) (pile : Pile) : Type 0 where
  pub owner_is : pile.owner ≡ group.owner
  pub class_is : pile.class ≡ group.class
  pub rtype_is : pile.rtype ≡ group.rtype
  pub ttl_is : pile.ttl ≡ least_ttl group.ttls
  pub items_are : each_once same_octets pile.items ≡ group.items
  pub signatures_are : group.class ≡ IN_CLASS → each_once same_octets pile.signatures ≡ group.signatures
