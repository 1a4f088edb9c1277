-- Tests that decide what a lookup meets and finds.
use Rattle.std.proofs.Common.{◌≡◌, ◌≢◌, ℕ, Bool, true, false, List, ◌∷◌, refl, subst}
use Rattle.std.specs.Prelude.{not, ◌&&◌, ◌||◌, ◌==◌, ◌↔◌}
use Rattle.std.specs.Bool.{Decides}
use Rattle.std.specs.List.{Contains}
use Rattle.std.specs.declared.cmp.Ordering.{Ordering}
use Rattle.std.specs.declared.cmp.Ordering.TheVariants.{Less, Equal, Greater}
use Rattle.std.specs.Ordering.{nat_cmp}
use Rattle.std.specs.Cmp.Lexicographic.{slice_cmp, bytes_decides}
use Rattle.std.proofs.lemmas.Bool.Decides.{Decides-eqb, Decides-like, Decides-not, Decides-and, Decides-or, not_from_Decides}
use Rattle.dname.specs.Name.{Label, IsUnder, asterisk}
use Rattle.dname.specs.declared.types.TheConstants.{CNAME_TYPE, DNAME_TYPE, DS_TYPE, NS_TYPE}
use Rattle.dname.proofs.SameLemmas.{same_name_decides}
use Rattle.dname.proofs.UnderLemmas.{under_decides}
use Rattle.dname.specs.Tests.{same_octets, same_name, is_under}
use Rattle.zone_meaning.specs.Zone.{Zone, HasData, Exists}
use Rattle.zone_meaning.specs.Lookup.{Looked, Answer, Alias, NoData, NxDomain, Referral, Redirect, MeetsCut, MeetsDname, Meets, MeetsFirst, MeetsNothing, AnswersAt, IsClosestEncloser, Synthesizes, by_no_source, as_itself, at_a_cut, at_a_dname, at_the_name, by_a_wildcard, LooksUp, IsZoneFor}
use Rattle.zone_meaning.proofs.ZoneTests.{any_of, any_decides, all_of, all_decides, if_decides, ancestors, ancestors_are_below, below_is_ancestor, is_among, is_below, below_decides, is_at, at_decides, record_at, has_type, has_type_decides, has_data, has_data_decides, is_cut, cut_decides, does_exist, exists_decides}
use Rattle.zone_meaning.proofs.LookupLemmas.{met_above}

-- ---- on the way

abbrev pub meets_cut : Zone → List Label → ℕ → List Label → Bool
meets_cut zone name rtype cut = is_cut zone cut && (is_under name cut && (not (same_name cut name) || not (rtype == DS_TYPE)))

meets_cut_decides : (zone : Zone) (name : List Label) (rtype : ℕ) (cut : List Label) → Decides (meets_cut zone name rtype cut) (MeetsCut zone name rtype cut)
meets_cut_decides zone name rtype cut = Decides-like (meets_cut zone name rtype cut)
    (λ h. record { parted = h.0; above = h.1.0; asked = h.1.1 })
    (λ meets. (meets.parted, (meets.above, meets.asked)))
    (Decides-and (is_cut zone cut) (is_under name cut && (not (same_name cut name) || not (rtype == DS_TYPE))) (cut_decides zone cut)
    (Decides-and (is_under name cut) (not (same_name cut name) || not (rtype == DS_TYPE)) (under_decides name cut)
    (if_decides (same_name cut name) (not (rtype == DS_TYPE)) (same_name_decides cut name) (Decides-not (rtype == DS_TYPE) (Decides-eqb rtype DS_TYPE)))))

abbrev pub meets_dname : Zone → List Label → List Label → Bool
meets_dname zone name owner = has_type zone owner DNAME_TYPE && is_below name owner

meets_dname_decides : (zone : Zone) (name owner : List Label) → Decides (meets_dname zone name owner) (MeetsDname zone name owner)
meets_dname_decides zone name owner = Decides-like (meets_dname zone name owner)
    (λ h. record { there = h.0; above = h.1 })
    (λ meets. (meets.there, meets.above))
    (Decides-and (has_type zone owner DNAME_TYPE) (is_below name owner) (has_type_decides zone owner DNAME_TYPE) (below_decides name owner))

abbrev pub meets : Zone → List Label → ℕ → List Label → Bool
meets zone name rtype other = meets_cut zone name rtype other || meets_dname zone name other

pub meets_decides : (zone : Zone) (name : List Label) (rtype : ℕ) (other : List Label) → Decides (meets zone name rtype other) (Meets zone name rtype other)
meets_decides zone name rtype other = Decides-or (meets_cut zone name rtype other) (meets_dname zone name other) (meets_cut_decides zone name rtype other) (meets_dname_decides zone name other)

pub unmet_decides : (zone : Zone) (name : List Label) (rtype : ℕ) (other : List Label) → Decides (not (meets zone name rtype other)) (Meets zone name rtype other → ⊥)
unmet_decides zone name rtype other = Decides-not (meets zone name rtype other) (meets_decides zone name rtype other)

abbrev pub meets_nothing : Zone → List Label → ℕ → Bool
meets_nothing zone name rtype = all_of (λ other. not (meets zone name rtype other)) (name ∷ ancestors name)

pub meets_nothing_decides : (zone : Zone) (name : List Label) (rtype : ℕ) → Decides (meets_nothing zone name rtype) (MeetsNothing zone name rtype)
meets_nothing_decides zone name rtype = Decides-like (meets_nothing zone name rtype)
    (λ h other met. h other (is_among name other (met_above zone name rtype other met)) met)
    (λ nothing other _. nothing other)
    (all_decides (λ other. not (meets zone name rtype other)) (λ other. Meets zone name rtype other → ⊥) (unmet_decides zone name rtype) (name ∷ ancestors name))

abbrev pub meets_first : Zone → List Label → ℕ → List Label → Bool
meets_first zone name rtype other = meets zone name rtype other && all_of (λ another. not (meets zone name rtype another)) (ancestors other)

pub meets_first_decides : (zone : Zone) (name : List Label) (rtype : ℕ) (other : List Label) → Decides (meets_first zone name rtype other) (MeetsFirst zone name rtype other)
meets_first_decides zone name rtype other = Decides-like (meets_first zone name rtype other)
    (λ h. record { met = h.0; topmost = λ another met below. h.1 another (below_is_ancestor other another below) met })
    (λ first. (first.met, λ another in' met. first.topmost another met (ancestors_are_below other another in')))
    (Decides-and (meets zone name rtype other) (all_of (λ another. not (meets zone name rtype another)) (ancestors other)) (meets_decides zone name rtype other)
    (all_decides (λ another. not (meets zone name rtype another)) (λ another. Meets zone name rtype another → ⊥) (unmet_decides zone name rtype) (ancestors other)))

-- ---- what is found

abbrev pub has_just : Zone → List Label → ℕ → List (List ℕ) → Bool
has_just zone name rtype items =
    all_of (λ octets. has_data zone name rtype octets) items && all_of (λ r. not (is_at name rtype r) || any_of (λ octets. same_octets octets r.octets) items) zone.records

pub has_just_decides : (zone : Zone) (name : List Label) (rtype : ℕ) (items : List (List ℕ)) → Decides (has_just zone name rtype items) ((octets : List ℕ) → Contains items octets ↔ HasData zone name rtype octets)
has_just_decides zone name rtype items = Decides-like (has_just zone name rtype items)
    (λ h octets. (λ in'. h.0 octets in', λ has. h.1 (record { owner = name; rtype = rtype; octets = octets }) has (refl, refl)))
    (λ same. (λ octets in'. (same octets).0 in', λ r in' at. (same r.octets).1 (subst (Contains zone.records) (record_at r name rtype at.0 at.1) in')))
    (Decides-and (all_of (λ octets. has_data zone name rtype octets) items) (all_of (λ r. not (is_at name rtype r) || any_of (λ octets. same_octets octets r.octets) items) zone.records)
    (all_decides (λ octets. has_data zone name rtype octets) (λ octets. HasData zone name rtype octets) (has_data_decides zone name rtype) items)
    (all_decides (λ r. not (is_at name rtype r) || any_of (λ octets. same_octets octets r.octets) items) (λ r. ((r.owner ≡ name) × (r.rtype ≡ rtype)) → Contains items r.octets)
    (λ r. if_decides (is_at name rtype r) (any_of (λ octets. same_octets octets r.octets) items) (at_decides name rtype r) (octets_decide r.octets items))
    zone.records))
  where
    octets_decide : (wanted : List ℕ) (items : List (List ℕ)) → Decides (any_of (λ octets. same_octets octets wanted) items) (Contains items wanted)
    octets_decide wanted items = Decides-like (any_of (λ octets. same_octets octets wanted) items)
        (λ h. subst (Contains items) h.2 h.1)
        (λ in'. (wanted, in', refl))
        (any_decides (λ octets. same_octets octets wanted) (λ octets. octets ≡ wanted) (λ octets. bytes_decides octets wanted) items)

abbrev pub is_closest : Zone → List Label → List Label → Bool
is_closest zone name encloser = does_exist zone encloser && (is_below name encloser && all_of (λ another. not (does_exist zone another) || is_under encloser another) (ancestors name))

pub closest_decides : (zone : Zone) (name encloser : List Label) → Decides (is_closest zone name encloser) (IsClosestEncloser zone name encloser)
closest_decides zone name encloser = Decides-like (is_closest zone name encloser)
    (λ h. record { there = h.0; above = h.1.0; longest = λ another there below. h.1.1 another (below_is_ancestor name another below) there })
    (λ is. (is.there, (is.above, λ another in' there. is.longest another there (ancestors_are_below name another in'))))
    (Decides-and (does_exist zone encloser) (is_below name encloser && all_of (λ another. not (does_exist zone another) || is_under encloser another) (ancestors name)) (exists_decides zone encloser)
    (Decides-and (is_below name encloser) (all_of (λ another. not (does_exist zone another) || is_under encloser another) (ancestors name)) (below_decides name encloser)
    (all_decides (λ another. not (does_exist zone another) || is_under encloser another) (λ another. Exists zone another → IsUnder encloser another)
    (λ another. if_decides (does_exist zone another) (is_under encloser another) (exists_decides zone another) (under_decides encloser another))
    (ancestors name))))

-- ---- a lookup by tests

module _ (zone : Zone) (name : List Label) (rtype : ℕ) (within : is_under name zone.apex ≡ true) where
  up : IsUnder name zone.apex
  up = (under_decides name zone.apex).0 within

  pub by_cut : (cut : List Label) → meets_first zone name rtype cut ≡ true → is_cut zone cut ≡ true → LooksUp zone name rtype (Referral cut)
  by_cut cut first parted = record { within = up; found = at_a_cut cut ((meets_first_decides zone name rtype cut).0 first) ((cut_decides zone cut).0 parted) }

  pub by_dname : (owner : List Label) → meets_first zone name rtype owner ≡ true → is_cut zone owner ≡ false → LooksUp zone name rtype (Redirect owner)
  by_dname owner first whole = record { within = up; found = at_a_dname owner ((meets_first_decides zone name rtype owner).0 first) (not_from_Decides (is_cut zone owner) (cut_decides zone owner) whole) }

  module _ (unmet : meets_nothing zone name rtype ≡ true) where
    nothing : MeetsNothing zone name rtype
    nothing = (meets_nothing_decides zone name rtype).0 unmet

    pub by_name : (answer : Looked) → does_exist zone name ≡ true → AnswersAt zone name rtype answer → LooksUp zone name rtype answer
    by_name answer there at = record { within = up; found = at_the_name answer nothing ((exists_decides zone name).0 there) at }

    pub by_none : (encloser : List Label) → does_exist zone name ≡ false → is_closest zone name encloser ≡ true → does_exist zone (asterisk ∷ encloser) ≡ false → LooksUp zone name rtype NxDomain
    by_none encloser missing closest absent = record {
      within = up;
      found = by_a_wildcard NxDomain encloser nothing (not_from_Decides (does_exist zone name) (exists_decides zone name) missing) ((closest_decides zone name encloser).0 closest)
          (by_no_source (not_from_Decides (does_exist zone (asterisk ∷ encloser)) (exists_decides zone (asterisk ∷ encloser)) absent));
    }

    pub by_source : (answer : Looked) (encloser : List Label) → does_exist zone name ≡ false → is_closest zone name encloser ≡ true → Synthesizes zone (asterisk ∷ encloser) rtype answer → LooksUp zone name rtype answer
    by_source answer encloser missing closest made = record {
      within = up;
      found = by_a_wildcard answer encloser nothing (not_from_Decides (does_exist zone name) (exists_decides zone name) missing) ((closest_decides zone name encloser).0 closest) made;
    }

pub data_at : (zone : Zone) (name : List Label) (rtype : ℕ) (items : List (List ℕ)) → has_type zone name rtype ≡ true → has_just zone name rtype items ≡ true → AnswersAt zone name rtype (Answer items)
data_at zone name rtype items has just = ((has_type_decides zone name rtype).0 has, (has_just_decides zone name rtype items).0 just)

pub nothing_at : (zone : Zone) (name : List Label) (rtype : ℕ) → has_type zone name rtype ≡ false → has_type zone name CNAME_TYPE ≡ false → AnswersAt zone name rtype NoData
nothing_at zone name rtype none no_cname = (not_from_Decides (has_type zone name rtype) (has_type_decides zone name rtype) none, not_from_Decides (has_type zone name CNAME_TYPE) (has_type_decides zone name CNAME_TYPE) no_cname)

abbrev pub is_greater : Ordering → Bool
is_greater Less = false
is_greater Equal = false
is_greater Greater = true

greater_decides : (o : Ordering) → Decides (is_greater o) (o ≡ Greater)
greater_decides Less = (λ e. cc, λ e. cc)
greater_decides Equal = (λ e. cc, λ e. cc)
greater_decides Greater = (λ _. refl, λ _. refl)

abbrev pub is_least : Zone → List Label → List ℕ → Bool
is_least zone name octets = all_of (λ r. not (is_at name CNAME_TYPE r) || not (is_greater (slice_cmp nat_cmp octets r.octets))) zone.records

pub alias_at : (zone : Zone) (name : List Label) (rtype : ℕ) (octets : List ℕ) → has_type zone name rtype ≡ false → has_data zone name CNAME_TYPE octets ≡ true → is_least zone name octets ≡ true → AnswersAt zone name rtype (Alias octets)
alias_at zone name rtype octets none has least = (
  not_from_Decides (has_type zone name rtype) (has_type_decides zone name rtype) none,
  (has_data_decides zone name CNAME_TYPE octets).0 has,
  λ others there. (all_decides (λ r. not (is_at name CNAME_TYPE r) || not (is_greater (slice_cmp nat_cmp octets r.octets))) (λ r. ((r.owner ≡ name) × (r.rtype ≡ CNAME_TYPE)) → slice_cmp nat_cmp octets r.octets ≢ Greater)
      (λ r. if_decides (is_at name CNAME_TYPE r) (not (is_greater (slice_cmp nat_cmp octets r.octets))) (at_decides name CNAME_TYPE r) (Decides-not (is_greater (slice_cmp nat_cmp octets r.octets)) (greater_decides (slice_cmp nat_cmp octets r.octets))))
      zone.records).0 least (record { owner = name; rtype = CNAME_TYPE; octets = others }) there (refl, refl),
)

pub data_made : (zone : Zone) (source : List Label) (rtype : ℕ) (items : List (List ℕ)) → does_exist zone source ≡ true → has_type zone source NS_TYPE ≡ false → AnswersAt zone source rtype (Answer items) → Synthesizes zone source rtype (Answer items)
data_made zone source rtype items there no_ns at = as_itself (Answer items) ((exists_decides zone source).0 there) (not_from_Decides (has_type zone source NS_TYPE) (has_type_decides zone source NS_TYPE) no_ns) at (λ e. cc)

pub nothing_made : (zone : Zone) (source : List Label) (rtype : ℕ) → does_exist zone source ≡ true → has_type zone source NS_TYPE ≡ false → has_type zone source DNAME_TYPE ≡ false → AnswersAt zone source rtype NoData → Synthesizes zone source rtype NoData
nothing_made zone source rtype there no_ns no_dname at =
    as_itself NoData ((exists_decides zone source).0 there) (not_from_Decides (has_type zone source NS_TYPE) (has_type_decides zone source NS_TYPE) no_ns) at (λ _. not_from_Decides (has_type zone source DNAME_TYPE) (has_type_decides zone source DNAME_TYPE) no_dname)

-- ---- the zone for a question

abbrev pub is_zone_for : Zone → List Label → ℕ → Bool
is_zone_for zone name qtype = is_under name zone.apex && (not (qtype == DS_TYPE) || not (same_name name zone.apex))

pub zone_for_decides : (zone : Zone) (name : List Label) (qtype : ℕ) → Decides (is_zone_for zone name qtype) (IsZoneFor zone name qtype)
zone_for_decides zone name qtype = Decides-like (is_zone_for zone name qtype)
    (λ h. record { above = h.0; of_ds = h.1 })
    (λ for. (for.above, for.of_ds))
    (Decides-and (is_under name zone.apex) (not (qtype == DS_TYPE) || not (same_name name zone.apex)) (under_decides name zone.apex)
    (if_decides (qtype == DS_TYPE) (not (same_name name zone.apex)) (Decides-eqb qtype DS_TYPE) (Decides-not (same_name name zone.apex) (same_name_decides name zone.apex))))
