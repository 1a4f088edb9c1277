-- Names above one another, and what stands in a zone.
use Rattle.std.proofs.Common.{◌≡◌, ℕ, ◌≤◌, ◌<◌, Bool, List, length, arith, ◌⊎◌, inl, inr, ⊎_elim}
use Rattle.std.specs.Bool.{Decides}
use Rattle.std.proofs.lemmas.Bool.{cases_lt, cases_Bool}
use Rattle.std.proofs.lemmas.Bool.Decides.{not_from_Decides}
use Rattle.std.proofs.lemmas.List.Elements.{All-contains}
use Rattle.dname.specs.Name.{Label, IsUnder}
use Rattle.dname.proofs.UnderLemmas.{under_itself, longer_is_under}
use Rattle.zone_meaning.specs.Zone.{Zone, ZoneRecord, IsZone, HasData, IsLive, Exists}
use Rattle.zone_meaning.specs.Lookup.{NoData, NxDomain}

-- ---- names

pub so_or_not : {P : Type 0} (r : Bool) → Decides r P → P ⊎ (P → ⊥)
so_or_not r d = ⊎_elim (λ yes. inl (d.0 yes)) (λ unlike. inr (not_from_Decides r d unlike)) (cases_Bool r)

-- of two names above one name, one is above the other
pub above_one_name : (name x y : List Label) → IsUnder name x → IsUnder name y → IsUnder x y ⊎ IsUnder y x
above_one_name name x y under under' = ⊎_elim
    (λ (less : length x < length y). inr (longer_is_under name y x under' under (omega arith)))
    (λ (more : length y ≤ length x). inl (longer_is_under name x y under under' more))
    (cases_lt (length x) (length y))

-- ---- answers

pub no_data_is_no_error : NoData ≡ NxDomain → ⊥
no_data_is_no_error e = cc

-- ---- owners

pub owner_within : (zone : Zone) → IsZone zone → (owner : List Label) (rtype : ℕ) (octets : List ℕ) → HasData zone owner rtype octets → IsUnder owner zone.apex
owner_within zone is owner rtype octets has =
    let r : ZoneRecord = record { owner = owner; rtype = rtype; octets = octets } in
    All-contains (λ (x : ZoneRecord). IsUnder x.owner zone.apex) zone.records r is.owners has

pub live_exists : (zone : Zone) → IsZone zone → (name : List Label) → IsLive zone name → Exists zone name
live_exists zone is name live = record {
  within = owner_within zone is name live.owner.0 live.owner.1.0 live.owner.1.1;
  owner = name;
  live = live;
  under = under_itself name;
}
