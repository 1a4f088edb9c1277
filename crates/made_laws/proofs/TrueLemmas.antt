-- The NSEC records and the sets of a made zone are true of it.
use Rattle.std.proofs.Common.{◌≡◌, ◌≢◌, ℕ, zero, suc, ◌<◌, ◌≤◌, ◌⊎◌, ◌↔◌, inl, inr, ⊎_elim, List, [], ◌∷◌, refl, sym, ◌∙◌, ap, subst, arith}
use Rattle.std.specs.List.{Contains}
use Rattle.std.specs.Prelude.{◌==◌}
use Rattle.std.specs.declared.cmp.Ordering.TheVariants.{Less}
use Rattle.std.proofs.lemmas.Bool.{cases_eq, cases_lt, cond-true, cond-false, ne_eqb}
use Rattle.std.proofs.lemmas.Bool.Decides.{Decides-eqb}
use Rattle.facts.proofs.Lists.{here, there, here_or_there, nothing_in}
use Rattle.dname.specs.Name.{Label, canonical_cmp}
use Rattle.dname.specs.Arc.{IsInside}
use Rattle.dname.specs.Order.{canonical_total}
use Rattle.dname.specs.declared.types.TheConstants.{NS_TYPE, NSEC_TYPE, RRSIG_TYPE, SOA_TYPE}
use Rattle.zone_meaning.specs.Zone.{ZoneRecord, HasData, HasType, IsCut, IsLive, IsProofType}
use Rattle.zone_meaning.specs.ZoneTable.{zone_record}
use Rattle.zone_meaning.specs.Consistent.{IsConsistentSet, IsConsistentNsec}
use Rattle.zone_maker.specs.Made.{made_example, name_at, Cut, kind_at, owner_in, type_in, data_in, soa_data, made_zone, made_owner, next_owner}
use Rattle.made_laws.specs.MadeNsec.{types_at, nsec_at}
use Rattle.zone_maker.proofs.NameLemmas.{label_at}
use Rattle.made_laws.proofs.OrderLemmas.{owner_is_no_apex, owners_rise}
use Rattle.made_laws.proofs.RingLemmas.{none_before_next, none_after_last}
use Rattle.made_laws.proofs.OwnerLemmas.{one_owner}
use Rattle.made_laws.proofs.RecordLemmas.{IsMade, made_record, has_soa, has_servers, has_named, cut_has_number, live_at, live_has_number}
use Rattle.made_laws.proofs.RecordLemmas.IsMade.{soa, servers, named}

-- ---- types

one_of : (types : List ℕ) (rtype other : ℕ) → rtype ≡ other → Contains types other → Contains types rtype
one_of types rtype other same in' = subst (λ t. Contains types t) (sym same) in'

type_there : (seed names k rtype : ℕ) → names ≤ 1000000 → k ≤ names → HasType (made_zone seed names) (made_owner k) rtype → Contains (types_at k) rtype
type_there seed names zero rtype few small has = by (made_record seed names (zone_record made_example rtype has.0) has.1)
  where
    by : IsMade seed names (zone_record made_example rtype has.0) → Contains (types_at 0) rtype
    by (soa e) = one_of (types_at 0) rtype SOA_TYPE (ap (λ (r : ZoneRecord). r.rtype) e) (there NS_TYPE (SOA_TYPE ∷ RRSIG_TYPE ∷ NSEC_TYPE ∷ []) SOA_TYPE (here SOA_TYPE (RRSIG_TYPE ∷ NSEC_TYPE ∷ [])))
    by (servers e) = one_of (types_at 0) rtype NS_TYPE (ap (λ (r : ZoneRecord). r.rtype) e) (here NS_TYPE (SOA_TYPE ∷ RRSIG_TYPE ∷ NSEC_TYPE ∷ []))
    by (named i short e) = absurd (owner_is_no_apex (kind_at i) (label_at i) (sym (ap (λ (r : ZoneRecord). r.owner) e)))
type_there seed names (suc i) rtype few small has = by (made_record seed names (zone_record (made_owner (suc i)) rtype has.0) has.1)
  where
    by : IsMade seed names (zone_record (made_owner (suc i)) rtype has.0) → Contains (types_at (suc i)) rtype
    by (soa e) = absurd (owner_is_no_apex (kind_at i) (label_at i) (ap (λ (r : ZoneRecord). r.owner) e))
    by (servers e) = absurd (owner_is_no_apex (kind_at i) (label_at i) (ap (λ (r : ZoneRecord). r.owner) e))
    by (named j short e) =
        let same : suc i ≡ suc j = one_owner (suc i) (suc j) (omega (arith, few, small)) (omega (arith, few, short)) (ap (λ (r : ZoneRecord). r.owner) e) in
        let one : j ≡ i = omega (arith, same) in
        one_of (types_at (suc i)) rtype (type_in (kind_at i)) (ap (λ (r : ZoneRecord). r.rtype) e ∙ ap (λ n. type_in (kind_at n)) one) (here (type_in (kind_at i)) (RRSIG_TYPE ∷ NSEC_TYPE ∷ []))

proof_types : (rtype : ℕ) → Contains (RRSIG_TYPE ∷ NSEC_TYPE ∷ []) rtype → IsProofType rtype
proof_types rtype in' = ⊎_elim
    (λ (first : RRSIG_TYPE ≡ rtype). inl (sym first))
    (λ (more : Contains (NSEC_TYPE ∷ []) rtype). ⊎_elim
    (λ (second : NSEC_TYPE ≡ rtype). inr (inl (sym second)))
    (λ (none : Contains [] rtype). absurd (nothing_in rtype none))
    (here_or_there NSEC_TYPE [] rtype more))
    (here_or_there RRSIG_TYPE (NSEC_TYPE ∷ []) rtype in')

there_type : (seed names k rtype : ℕ) → k ≤ names → (IsProofType rtype → ⊥) → Contains (types_at k) rtype → HasType (made_zone seed names) (made_owner k) rtype
there_type seed names zero rtype small ordinary in' = ⊎_elim
    (λ (first : NS_TYPE ≡ rtype). subst (λ t. HasType (made_zone seed names) made_example t) first (_, has_servers seed names))
    (λ (more : Contains (SOA_TYPE ∷ RRSIG_TYPE ∷ NSEC_TYPE ∷ []) rtype). ⊎_elim
    (λ (second : SOA_TYPE ≡ rtype). subst (λ t. HasType (made_zone seed names) made_example t) second (_, has_soa seed names))
    (λ (others : Contains (RRSIG_TYPE ∷ NSEC_TYPE ∷ []) rtype). absurd (ordinary (proof_types rtype others)))
    (here_or_there SOA_TYPE (RRSIG_TYPE ∷ NSEC_TYPE ∷ []) rtype more))
    (here_or_there NS_TYPE (SOA_TYPE ∷ RRSIG_TYPE ∷ NSEC_TYPE ∷ []) rtype in')
there_type seed names (suc i) rtype small ordinary in' = ⊎_elim
    (λ (first : type_in (kind_at i) ≡ rtype). subst (λ t. HasType (made_zone seed names) (made_owner (suc i)) t) first (_, has_named seed names i (omega (arith, small))))
    (λ (others : Contains (RRSIG_TYPE ∷ NSEC_TYPE ∷ []) rtype). absurd (ordinary (proof_types rtype others)))
    (here_or_there (type_in (kind_at i)) (RRSIG_TYPE ∷ NSEC_TYPE ∷ []) rtype in')

-- ---- NSEC records

-- behind it the next owner, or behind the last the apex
pub next_by : (names k : ℕ) → k ≤ names → ((k < names) × (next_owner names k ≡ made_owner (suc k))) ⊎ ((k ≡ names) × (next_owner names k ≡ made_example))
next_by names k small = ⊎_elim
    (λ (same : k ≡ names). inr (same, cond-true (k == names) made_example (made_owner (suc k)) ((Decides-eqb k names).1 same)))
    (λ (apart : k ≡ names → ⊥). inl (⊎_elim (λ (less : k < names). less) (λ (most : names ≤ k). absurd (apart (omega (arith, small, most)))) (cases_lt k names), cond-false (k == names) made_example (made_owner (suc k)) (ne_eqb k names apart)))
    (cases_eq k names)

pub nsec_true : (seed names k : ℕ) → names ≤ 1000000 → k ≤ names → IsConsistentNsec (made_zone seed names) (nsec_at names k)
nsec_true seed names k few small = record {
  apex = refl;
  owner_live = live_at seed names k few small;
  next_live = ⊎_elim
      (λ (h : (k < names) × (next_owner names k ≡ made_owner (suc k))). subst (λ (n : List Label). IsLive (made_zone seed names) n) (sym h.1) (live_at seed names (suc k) few (omega (arith, h.0))))
      (λ (h : (k ≡ names) × (next_owner names k ≡ made_example)). subst (λ (n : List Label). IsLive (made_zone seed names) n) (sym h.1) (live_at seed names 0 few (omega arith)))
      (next_by names k small);
  types_agree = λ rtype ordinary side. (type_there seed names k rtype few small, there_type seed names k rtype small ordinary);
  none_between = none;
}
  where
    rise : (i j : ℕ) → i < j → j ≤ names → canonical_cmp (made_owner i) (made_owner j) ≡ Less
    rise i j less within = owners_rise i j less (omega (arith, few, within))

    inside_one : (n : List Label) (j : ℕ) → j ≤ names → n ≡ next_owner names k → IsInside canonical_cmp (made_owner k) n (made_owner j) → ⊥
    inside_one n j within is inside = ⊎_elim
        (λ (h : (k < names) × (next_owner names k ≡ made_owner (suc k))).
        none_before_next canonical_cmp canonical_total made_owner names rise k j h.0 within (subst (λ (m : List Label). IsInside canonical_cmp (made_owner k) m (made_owner j)) (is ∙ h.1) inside))
        (λ (h : (k ≡ names) × (next_owner names k ≡ made_example)).
        none_after_last canonical_cmp canonical_total made_owner names rise j within
        (subst (λ m. IsInside canonical_cmp (made_owner m) made_example (made_owner j)) h.0 (subst (λ (m : List Label). IsInside canonical_cmp (made_owner k) m (made_owner j)) (is ∙ h.1) inside)))
        (next_by names k small)

    none : (name : List Label) → IsLive (made_zone seed names) name → IsInside canonical_cmp (made_owner k) (next_owner names k) name → ⊥
    none name live inside =
        let h = live_has_number seed names name live in
        inside_one (next_owner names k) h.number h.small refl (subst (λ (m : List Label). IsInside canonical_cmp (made_owner k) (next_owner names k) m) h.name_is inside)

-- ---- sets

-- the items are this one, as often as it may be there
abbrev pub HasOnly : List (List ℕ) → List ℕ → Type 0
HasOnly items data' = (octets : List ℕ) → Contains items octets ↔ (octets ≡ data')

not_empty : (items : List (List ℕ)) (data' : List ℕ) → HasOnly items data' → items ≢ []
not_empty items data' only none = nothing_in data' (subst (λ (xs : List (List ℕ)). Contains xs data') none ((only data').1 refl))

pub soa_true : (seed names : ℕ) (items : List (List ℕ)) → names ≤ 1000000 → HasOnly items soa_data → IsConsistentSet (made_zone seed names) (record { zone = made_example; owner = made_example; rtype = SOA_TYPE; items = items })
soa_true seed names items few only = record {
  apex = refl;
  data_there = λ octets. (
    λ in'. subst (λ d. HasData (made_zone seed names) made_example SOA_TYPE d) (sym ((only octets).0 in')) (has_soa seed names),
    λ has. (only octets).1 (by octets (made_record seed names (zone_record made_example SOA_TYPE octets) has)),
  );
  not_empty = not_empty items soa_data only;
  live = live_at seed names 0 few (omega arith);
  authority = λ cut. absurd (cut.0 refl);
}
  where
    by : (octets : List ℕ) → IsMade seed names (zone_record made_example SOA_TYPE octets) → octets ≡ soa_data
    by octets (soa e) = ap (λ (r : ZoneRecord). r.octets) e
    by octets (servers e) = absurd (omega (arith, ap (λ (r : ZoneRecord). r.rtype) e))
    by octets (named i short e) = absurd (owner_is_no_apex (kind_at i) (label_at i) (sym (ap (λ (r : ZoneRecord). r.owner) e)))

-- the set of a name that is no cut
pub named_true : (seed names i : ℕ) (items : List (List ℕ)) → names ≤ 1000000 → i < names → (kind_at i ≡ Cut → ⊥) → HasOnly items (data_in (kind_at i) seed i)
    → IsConsistentSet (made_zone seed names) (record { zone = made_example; owner = made_owner (suc i); rtype = type_in (kind_at i); items = items })
named_true seed names i items few short no_cut only = record {
  apex = refl;
  data_there = λ octets. (
    λ in'. subst (λ d. HasData (made_zone seed names) (made_owner (suc i)) (type_in (kind_at i)) d) (sym ((only octets).0 in')) (has_named seed names i short),
    λ has. (only octets).1 (by octets (made_record seed names (zone_record (made_owner (suc i)) (type_in (kind_at i)) octets) has)),
  );
  not_empty = not_empty items (data_in (kind_at i) seed i) only;
  live = live_at seed names (suc i) few (omega (arith, short));
  authority = λ cut. absurd (at_cut cut);
}
  where
    by : (octets : List ℕ) → IsMade seed names (zone_record (made_owner (suc i)) (type_in (kind_at i)) octets) → octets ≡ data_in (kind_at i) seed i
    by octets (soa e) = absurd (owner_is_no_apex (kind_at i) (label_at i) (ap (λ (r : ZoneRecord). r.owner) e))
    by octets (servers e) = absurd (owner_is_no_apex (kind_at i) (label_at i) (ap (λ (r : ZoneRecord). r.owner) e))
    by octets (named j within e) =
        let same : suc i ≡ suc j = one_owner (suc i) (suc j) (omega (arith, few, short)) (omega (arith, few, within)) (ap (λ (r : ZoneRecord). r.owner) e) in
        let one : j ≡ i = omega (arith, same) in
        ap (λ (r : ZoneRecord). r.octets) e ∙ ap (λ n. data_in (kind_at n) seed n) one

    at_cut : IsCut (made_zone seed names) (made_owner (suc i)) → ⊥
    at_cut cut =
        let c = cut_has_number seed names (made_owner (suc i)) cut in
        let at : owner_in (kind_at c.number) (name_at c.number) ≡ name_at c.number = ap (λ t. owner_in t (name_at c.number)) c.turn_is in
        let same : suc i ≡ suc c.number = one_owner (suc i) (suc c.number) (omega (arith, few, short)) (omega (arith, few, c.short)) (c.name_is ∙ sym at) in
        let one : i ≡ c.number = omega (arith, same) in
        no_cut (ap kind_at one ∙ c.turn_is)
