-- The records of a made zone, its cuts and its live names.
use Rattle.std.proofs.Common.{◌≡◌, ℕ, zero, suc, ◌<◌, ◌≤◌, ◌⊎◌, inl, inr, ⊎_elim, List, ◌∷◌, map, refl, sym, ◌∙◌, ap, subst, arith}
use Rattle.std.specs.List.{Contains, range_with_len}
use Rattle.std.proofs.lemmas.List.FromFn.{length-map-range_with_len, get_or-map-range_with_len}
use Rattle.facts.proofs.Lists.{here, there, here_or_there}
use Rattle.dname.specs.Name.{Label, IsUnder, wire_of}
use Rattle.dname.specs.declared.types.TheConstants.{DNAME_TYPE, NS_TYPE, SOA_TYPE}
use Rattle.zone_meaning.specs.Zone.{ZoneRecord, HasType, IsBar, IsBelow, IsCut, IsLive, IsOwner}
use Rattle.zone_meaning.specs.ZoneTable.{zone_record}
use Rattle.zone_maker.specs.Made.{made_example, name_server, name_at, NameKind, Host, Above, Cut, Wild, kind_at, owner_in, type_in, data_in, record_in, soa_data, made_zone, made_owner}
use Rattle.made_laws.proofs.OwnerLemmas.{none_below_cut}

-- ---- a list made of numbers

pub at_number : {X : Type 0} (f : ℕ → X) (n : ℕ) (x : X) → Contains (map f (range_with_len 0 n)) x → (i : ℕ) × (i < n) × (f i ≡ x)
at_number f n x in' =
    let short : in'.0 < n = subst (λ m. in'.0 < m) (length-map-range_with_len f 0 n) in'.1 in
    (in'.0, short, sym (get_or-map-range_with_len f 0 n in'.0 in'.0 x short (omega arith)) ∙ in'.2)

number_at : {X : Type 0} (f : ℕ → X) (n i : ℕ) → i < n → Contains (map f (range_with_len 0 n)) (f i)
number_at f n i short = (i, subst (λ m. i < m) (sym (length-map-range_with_len f 0 n)) short, get_or-map-range_with_len f 0 n i i (f i) short (omega arith))

-- ---- the records

pub data IsMade (seed names : ℕ) (r : ZoneRecord) : Type 0 where
  soa : r ≡ zone_record made_example SOA_TYPE soa_data → IsMade seed names r
  servers : r ≡ zone_record made_example NS_TYPE (wire_of name_server) → IsMade seed names r
  named : (i : ℕ) → i < names → r ≡ record_in (kind_at i) seed i → IsMade seed names r

abbrev named_records : ℕ → ℕ → List ZoneRecord
named_records seed names = map (λ i. record_in (kind_at i) seed i) (range_with_len 0 names)

abbrev soa_record : ZoneRecord
soa_record = zone_record made_example SOA_TYPE soa_data

abbrev servers_record : ZoneRecord
servers_record = zone_record made_example NS_TYPE (wire_of name_server)

pub made_record : (seed names : ℕ) (r : ZoneRecord) → Contains (made_zone seed names).records r → IsMade seed names r
made_record seed names r in' = ⊎_elim
    (λ (first : soa_record ≡ r). soa (sym first))
    (λ (more : Contains (servers_record ∷ named_records seed names) r). ⊎_elim
    (λ (second : servers_record ≡ r). servers (sym second))
    (λ (others : Contains (named_records seed names) r).
    let at = at_number (λ i. record_in (kind_at i) seed i) names r others in named at.0 at.1 (sym at.2))
    (here_or_there servers_record (named_records seed names) r more))
    (here_or_there soa_record (servers_record ∷ named_records seed names) r in')

pub has_soa : (seed names : ℕ) → Contains (made_zone seed names).records soa_record
has_soa seed names = here soa_record (servers_record ∷ named_records seed names)

pub has_servers : (seed names : ℕ) → Contains (made_zone seed names).records servers_record
has_servers seed names = there soa_record (servers_record ∷ named_records seed names) servers_record (here servers_record (named_records seed names))

pub has_named : (seed names i : ℕ) → i < names → Contains (made_zone seed names).records (record_in (kind_at i) seed i)
has_named seed names i short =
    let r : ZoneRecord = record_in (kind_at i) seed i in
    there soa_record (servers_record ∷ named_records seed names) r
    (there servers_record (named_records seed names) r (number_at (λ i. record_in (kind_at i) seed i) names i short))

-- ---- cuts

not_type : (a b : ℕ) → (a < b) ⊎ (b < a) → a ≡ b → ⊥
not_type a b (inl less) same = omega (arith, less, same)
not_type a b (inr more) same = omega (arith, more, same)

cut_of : (kind : NameKind) → NS_TYPE ≡ type_in kind → kind ≡ Cut
cut_of Host same = absurd (omega (arith, same))
cut_of Above same = absurd (omega (arith, same))
cut_of Cut same = refl
cut_of Wild same = absurd (omega (arith, same))

no_dname_in : (kind : NameKind) → DNAME_TYPE ≡ type_in kind → ⊥
no_dname_in Host same = omega (arith, same)
no_dname_in Above same = omega (arith, same)
no_dname_in Cut same = omega (arith, same)
no_dname_in Wild same = omega (arith, same)

pub record IsCutOf (names : ℕ) (cut : List Label) : Type 0 where
  pub number : ℕ
  pub short : number < names
  pub turn_is : kind_at number ≡ Cut
  pub name_is : cut ≡ name_at number

pub cut_has_number : (seed names : ℕ) (cut : List Label) → IsCut (made_zone seed names) cut → IsCutOf names cut
cut_has_number seed names cut is = by (made_record seed names (zone_record cut NS_TYPE is.1.0) is.1.1)
  where
    by : IsMade seed names (zone_record cut NS_TYPE is.1.0) → IsCutOf names cut
    by (soa e) = absurd (not_type NS_TYPE SOA_TYPE (inl (omega arith)) (ap (λ (r : ZoneRecord). r.rtype) e))
    by (servers e) = absurd (is.0 (ap (λ (r : ZoneRecord). r.owner) e))
    by (named i short e) =
        let kind : kind_at i ≡ Cut = cut_of (kind_at i) (ap (λ (r : ZoneRecord). r.rtype) e) in
        record { number = i; short = short; turn_is = kind; name_is = ap (λ (r : ZoneRecord). r.owner) e ∙ ap (λ t. owner_in t (name_at i)) kind }

no_dname : (seed names : ℕ) (owner : List Label) → HasType (made_zone seed names) owner DNAME_TYPE → ⊥
no_dname seed names owner has = by (made_record seed names (zone_record owner DNAME_TYPE has.0) has.1)
  where
    by : IsMade seed names (zone_record owner DNAME_TYPE has.0) → ⊥
    by (soa e) = not_type DNAME_TYPE SOA_TYPE (inr (omega arith)) (ap (λ (r : ZoneRecord). r.rtype) e)
    by (servers e) = not_type DNAME_TYPE NS_TYPE (inr (omega arith)) (ap (λ (r : ZoneRecord). r.rtype) e)
    by (named i short e) = no_dname_in (kind_at i) (ap (λ (r : ZoneRecord). r.rtype) e)

-- ---- live names

owner_at : (seed names k : ℕ) → k ≤ names → IsOwner (made_zone seed names) (made_owner k)
owner_at seed names zero small = (SOA_TYPE, (soa_data, has_soa seed names))
owner_at seed names (suc i) small = (type_in (kind_at i), (data_in (kind_at i) seed i, has_named seed names i (omega (arith, small))))

-- the owners are live: no cut is above them, and there is no DNAME
pub live_at : (seed names k : ℕ) → names ≤ 1000000 → k ≤ names → IsLive (made_zone seed names) (made_owner k)
live_at seed names k few small = record { owner = owner_at seed names k small; unbarred = unbarred }
  where
    unbarred : (bar : List Label) → IsBar (made_zone seed names) bar → IsBelow (made_owner k) bar → ⊥
    unbarred bar (inr dname) below = no_dname seed names bar dname
    unbarred bar (inl cut) below =
        let c = cut_has_number seed names bar cut in
        none_below_cut k c.number (omega (arith, few, small)) (omega (arith, few, c.short)) c.turn_is
        (subst (λ (b : List Label). IsUnder (made_owner k) b) c.name_is below.0) (λ same. below.1 (same ∙ sym c.name_is))

pub record IsNumbered (names : ℕ) (name : List Label) : Type 0 where
  pub number : ℕ
  pub small : number ≤ names
  pub name_is : name ≡ made_owner number

-- and each live name is one of them
pub live_has_number : (seed names : ℕ) (name : List Label) → IsLive (made_zone seed names) name → IsNumbered names name
live_has_number seed names name live = by (made_record seed names (zone_record name live.owner.0 live.owner.1.0) live.owner.1.1)
  where
    by : IsMade seed names (zone_record name live.owner.0 live.owner.1.0) → IsNumbered names name
    by (soa e) = record { number = 0; small = omega arith; name_is = ap (λ (r : ZoneRecord). r.owner) e }
    by (servers e) = record { number = 0; small = omega arith; name_is = ap (λ (r : ZoneRecord). r.owner) e }
    by (named i short e) = record { number = suc i; small = omega (arith, short); name_is = ap (λ (r : ZoneRecord). r.owner) e }
