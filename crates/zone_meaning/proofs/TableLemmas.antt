-- What stands in a table's groups stands in its zone.
use Rattle.std.proofs.Common.{◌≡◌, ◌≢◌, ℕ, ◌<◌, List, [], ◌∷◌, length, refl, sym, ◌∙◌, ap, subst, ⊎_elim, get_or}
use Rattle.std.specs.List.{All, Any, Contains, HoldsAt}
use Rattle.std.proofs.lemmas.List.Elements.{All-contains, Contains-append_left, Contains-append_right, Contains-append_cases}
use Rattle.facts.proofs.Maps.{into_map, from_map}
use Rattle.facts.proofs.Lists.{here, there, nothing_in, here_or_there}
use Rattle.dname.specs.Name.{Label, IsUnder}
use Rattle.zone_meaning.specs.Zone.{Zone, ZoneRecord, HasData, HasType, IsOwner}
use Rattle.zone_meaning.specs.Lookup.{Answer, AnswersAt}
use Rattle.zone_meaning.specs.ZoneTable.{zone_record, records_of, records_in, IsOf, AreApart, IsTable, IsReached}
use Rattle.zone_meaning.specs.declared.group.Group.{Group}

-- ---- lists

pub first_item : (items : List (List ℕ)) → items ≢ [] → (octets : List ℕ) × Contains items octets
first_item [] some = absurd (some refl)
first_item (octets ∷ items) some = (octets, here octets items)

-- ---- records

pub in_records : (groups : List Group) (g : Group) → Contains groups g → (octets : List ℕ) → Contains g.items octets → Contains (records_in groups) (zone_record g.owner g.rtype octets)
in_records [] g in' octets item = absurd (nothing_in g in')
in_records (h ∷ groups) g in' octets item = ⊎_elim
    (λ (same : h ≡ g). Contains-append_left (records_of h) (records_in groups) (zone_record g.owner g.rtype octets) (subst (λ (x : Group). Contains (records_of x) (zone_record g.owner g.rtype octets)) (sym same) (into_map (zone_record g.owner g.rtype) g.items octets item)))
    (λ more. Contains-append_right (records_of h) (records_in groups) (zone_record g.owner g.rtype octets) (in_records groups g more octets item))
    (here_or_there h groups g in')

pub from_records : (groups : List Group) (r : ZoneRecord) → Contains (records_in groups) r → (g : Group) × Contains groups g × (g.owner ≡ r.owner) × (g.rtype ≡ r.rtype) × Contains g.items r.octets
from_records [] r in' = absurd (nothing_in r in')
from_records (g ∷ groups) r in' = ⊎_elim
    (λ mine. let h = from_map (zone_record g.owner g.rtype) g.items r mine in (g, here g groups, ap (λ (x : ZoneRecord). x.owner) h.2, ap (λ (x : ZoneRecord). x.rtype) h.2, subst (Contains g.items) (ap (λ (x : ZoneRecord). x.octets) h.2) h.1))
    (λ more. let h = from_records groups r more in (h.0, there g groups h.0 h.1, h.2, h.3, h.4))
    (Contains-append_cases (records_of g) (records_in groups) r in')

-- of one owner and type there is one group
pub one_group : (groups : List Group) → AreApart groups → (g h : Group) → Contains groups g → Contains groups h → IsOf g h.owner h.rtype → g ≡ h
one_group [] apart g h in' in'' of = absurd (nothing_in g in')
one_group (x ∷ groups) apart g h in' in'' of = ⊎_elim
    (λ (same : x ≡ g). ⊎_elim
    (λ (same' : x ≡ h). sym same ∙ same')
    (λ more. absurd (apart.0 h more (sym of.0 ∙ ap (λ (y : Group). y.owner) (sym same), sym of.1 ∙ ap (λ (y : Group). y.rtype) (sym same))))
    (here_or_there x groups h in''))
    (λ more. ⊎_elim
    (λ (same' : x ≡ h). absurd (apart.0 g more (of.0 ∙ ap (λ (y : Group). y.owner) (sym same'), of.1 ∙ ap (λ (y : Group). y.rtype) (sym same'))))
    (λ more'. one_group groups apart.1 g h more more' of)
    (here_or_there x groups h in''))
    (here_or_there x groups g in')

module _ (zone : Zone) (groups : List Group) (is : IsTable zone groups) where
  pub group_has : (g : Group) → Contains groups g → (octets : List ℕ) → Contains g.items octets → HasData zone g.owner g.rtype octets
  group_has g in' octets item = subst (λ (rs : List ZoneRecord). Contains rs (zone_record g.owner g.rtype octets)) (sym is.records) (in_records groups g in' octets item)

  pub group_of : (owner : List Label) (rtype : ℕ) (octets : List ℕ) → HasData zone owner rtype octets → (g : Group) × Contains groups g × (g.owner ≡ owner) × (g.rtype ≡ rtype) × Contains g.items octets
  group_of owner rtype octets has = from_records groups (zone_record owner rtype octets) (subst (λ (rs : List ZoneRecord). Contains rs (zone_record owner rtype octets)) is.records has)

  pub some_item : (g : Group) → Contains groups g → (octets : List ℕ) × Contains g.items octets
  some_item g in' = first_item g.items (All-contains (λ (x : Group). x.items ≢ []) groups g is.filled in')

  pub group_owner : (g : Group) → Contains groups g → IsOwner zone g.owner
  group_owner g in' = let item = some_item g in' in (g.rtype, (item.0, group_has g in' item.0 item.1))

  -- ---- what the steps of a lookup ask

  answers : (g : Group) → Contains groups g → AnswersAt zone g.owner g.rtype (Answer g.items)
  answers g in' =
      let item = some_item g in' in (
        (item.0, group_has g in' item.0 item.1),
        λ octets. (
          λ item'. group_has g in' octets item',
          λ has. let h = group_of g.owner g.rtype octets has in subst (λ (x : Group). Contains x.items octets) (one_group groups is.apart h.0 g h.1 in' (h.2, h.3)) h.4,
        ),
      )

  pub data_at : (owner : List Label) (rtype place : ℕ) (g : Group) → place < length groups → g ≡ get_or groups place g → HoldsAt (λ x. IsOf x owner rtype) groups place → AnswersAt zone owner rtype (Answer g.items)
  data_at owner rtype place g short read at =
      let of : IsOf g owner rtype = subst (λ (x : Group). IsOf x owner rtype) (sym read) (at g) in
      subst (λ o. AnswersAt zone o rtype (Answer g.items)) of.0 (subst (λ t. AnswersAt zone g.owner t (Answer g.items)) of.1 (answers g (place, short, sym read)))

  pub no_data : (owner : List Label) (rtype : ℕ) → All (λ x. IsOf x owner rtype → ⊥) groups → HasType zone owner rtype → ⊥
  no_data owner rtype none has =
      let h = group_of owner rtype has.0 has.1 in
      All-contains (λ (x : Group). IsOf x owner rtype → ⊥) groups h.0 none h.1 (h.2, h.3)

  pub reached_by : (name : List Label) → Any (λ x. IsUnder x.owner name) groups → IsReached zone name
  reached_by name any = (any.1.owner, group_owner any.1 (any.0, any.2, any.3), any.4)

  pub reached_from : (name : List Label) → IsReached zone name → Any (λ x. IsUnder x.owner name) groups
  reached_from name reached =
      let h = group_of reached.0 reached.1.0 reached.1.1.0 reached.1.1.1 in
      (h.1.0, h.0, h.1.1, h.1.2, subst (λ n. IsUnder n name) (sym h.2) reached.2)

  -- a fact of each group's owner is one of each owner
  pub each_owner : (P : List Label → Type 0) → All (λ x. P x.owner) groups → (owner : List Label) → IsOwner zone owner → P owner
  each_owner P each owner has =
      let h = group_of owner has.0 has.1.0 has.1.1 in
      subst P h.2 (All-contains (λ (x : Group). P x.owner) groups h.0 each h.1)
