-- What holds of a zone holds of one with the same records, in whatever order and however often they come.
use Rattle.std.proofs.Common.{ℕ, List, ◌∷◌, sym, ◌∙◌, subst, inl, inr, ⊎_elim}
use Rattle.std.proofs.lemmas.List.Elements.{All-contains}
use Rattle.facts.proofs.Lists.{all_by_member}
use Rattle.dname.specs.Name.{Label, IsUnder, asterisk}
use Rattle.dname.specs.declared.types.TheConstants.{CNAME_TYPE, DNAME_TYPE, NS_TYPE}
use Rattle.zone_meaning.specs.Zone.{Zone, ZoneRecord, IsSameZone, IsZone, IsProofType, HasType, IsCut, IsBar, IsLive, Exists}
use Rattle.zone_meaning.specs.Lookup.{Looked, Answer, Alias, NoData, NxDomain, Referral, Redirect, Undefined, MeetsCut, MeetsDname, Meets, MeetsFirst, MeetsNothing, AnswersAt, IsClosestEncloser, Synthesizes, by_no_source, by_its_ns, by_its_dname, as_itself, Finds, at_a_cut, at_a_dname, at_the_name, by_a_wildcard, with_no_encloser, LooksUp}
use Rattle.zone_meaning.specs.Hashed.{Nsec3Part, IsConsistentNsec3, IsClashFree}
use Rattle.zone_meaning.specs.Consistent.{SetPart, NsecPart, IsConsistentSet, IsConsistentNsec, TypesAgree}

back : (z w : Zone) → IsSameZone z w → IsSameZone w z
back z w same = record { apex_same = sym same.apex_same; records_same = λ r. ((same.records_same r).1, (same.records_same r).0) }

type : (z w : Zone) → IsSameZone z w → (name : List Label) (rtype : ℕ) → HasType z name rtype → HasType w name rtype
type z w same name rtype has = (has.0, (same.records_same _).0 has.1)

under_apex : (z w : Zone) → IsSameZone z w → (name : List Label) → IsUnder name z.apex → IsUnder name w.apex
under_apex z w same name under = subst (IsUnder name) same.apex_same under

cut : (z w : Zone) → IsSameZone z w → (name : List Label) → IsCut z name → IsCut w name
cut z w same name is = (λ e. is.0 (e ∙ sym same.apex_same), type z w same name NS_TYPE is.1)

bar : (z w : Zone) → IsSameZone z w → (name : List Label) → IsBar z name → IsBar w name
bar z w same name = ⊎_elim (λ is. inl (cut z w same name is)) (λ has. inr (type z w same name DNAME_TYPE has))

live : (z w : Zone) → IsSameZone z w → (name : List Label) → IsLive z name → IsLive w name
live z w same name is = record {
  owner = (is.owner.0, type z w same name is.owner.0 is.owner.1);
  unbarred = λ b barred below. is.unbarred b (bar w z (back z w same) b barred) below;
}

there : (z w : Zone) → IsSameZone z w → (name : List Label) → Exists z name → Exists w name
there z w same name is = record { within = under_apex z w same name is.within; owner = is.owner; live = live z w same is.owner is.live; under = is.under }

meets : (z w : Zone) → IsSameZone z w → (name : List Label) (rtype : ℕ) (other : List Label) → Meets z name rtype other → Meets w name rtype other
meets z w same name rtype other = ⊎_elim
    (λ (m : MeetsCut z name rtype other). inl (record { parted = cut z w same other m.parted; above = m.above; asked = m.asked }))
    (λ (m : MeetsDname z name other). inr (record { there = type z w same other DNAME_TYPE m.there; above = m.above }))

first : (z w : Zone) → IsSameZone z w → (name : List Label) (rtype : ℕ) (other : List Label) → MeetsFirst z name rtype other → MeetsFirst w name rtype other
first z w same name rtype other is = record { met = meets z w same name rtype other is.met; topmost = λ another met below. is.topmost another (meets w z (back z w same) name rtype another met) below }

nothing : (z w : Zone) → IsSameZone z w → (name : List Label) (rtype : ℕ) → MeetsNothing z name rtype → MeetsNothing w name rtype
nothing z w same name rtype none other met = none other (meets w z (back z w same) name rtype other met)

at : (z w : Zone) → IsSameZone z w → (name : List Label) (rtype : ℕ) (answer : Looked) → AnswersAt z name rtype answer → AnswersAt w name rtype answer
at z w same name rtype (Answer items) h = (type z w same name rtype h.0, λ octets. (λ in'. (same.records_same _).0 ((h.1 octets).0 in'), λ has. (h.1 octets).1 ((same.records_same _).1 has)))
at z w same name rtype (Alias octets) h = (λ has. h.0 (type w z (back z w same) name rtype has), (same.records_same _).0 h.1, λ others has. h.2 others ((same.records_same _).1 has))
at z w same name rtype NoData h = (λ has. h.0 (type w z (back z w same) name rtype has), λ has. h.1 (type w z (back z w same) name CNAME_TYPE has))
at z w same name rtype NxDomain h = absurd h
at z w same name rtype (Referral cut) h = absurd h
at z w same name rtype (Redirect owner) h = absurd h
at z w same name rtype Undefined h = absurd h

closest : (z w : Zone) → IsSameZone z w → (name encloser : List Label) → IsClosestEncloser z name encloser → IsClosestEncloser w name encloser
closest z w same name encloser is = record { there = there z w same encloser is.there; above = is.above; longest = λ another exists below. is.longest another (there w z (back z w same) another exists) below }

made : (z w : Zone) → IsSameZone z w → (source : List Label) (rtype : ℕ) (answer : Looked) → Synthesizes z source rtype answer → Synthesizes w source rtype answer
made z w same source rtype _ (by_no_source missing) = by_no_source (λ exists. missing (there w z (back z w same) source exists))
made z w same source rtype _ (by_its_ns exists ns) = by_its_ns (there z w same source exists) (type z w same source NS_TYPE ns)
made z w same source rtype _ (by_its_dname exists dname none) = by_its_dname (there z w same source exists) (type z w same source DNAME_TYPE dname) (at z w same source rtype NoData none)
made z w same source rtype _ (as_itself answer exists no_ns is undirected) =
    as_itself answer (there z w same source exists) (λ ns. no_ns (type w z (back z w same) source NS_TYPE ns)) (at z w same source rtype answer is) (λ e dname. undirected e (type w z (back z w same) source DNAME_TYPE dname))

found : (z w : Zone) → IsSameZone z w → (name : List Label) (rtype : ℕ) (answer : Looked) → Finds z name rtype answer → Finds w name rtype answer
found z w same name rtype _ (at_a_cut c is parted) = at_a_cut c (first z w same name rtype c is) (cut z w same c parted)
found z w same name rtype _ (at_a_dname owner is whole) = at_a_dname owner (first z w same name rtype owner is) (λ parted. whole (cut w z (back z w same) owner parted))
found z w same name rtype _ (at_the_name answer none exists is) = at_the_name answer (nothing z w same name rtype none) (there z w same name exists) (at z w same name rtype answer is)
found z w same name rtype _ (by_a_wildcard answer encloser none missing is synthesis) =
    by_a_wildcard answer encloser (nothing z w same name rtype none) (λ exists. missing (there w z (back z w same) name exists)) (closest z w same name encloser is) (made z w same (asterisk ∷ encloser) rtype answer synthesis)
found z w same name rtype _ (with_no_encloser none missing) = with_no_encloser (nothing z w same name rtype none) (λ other under exists. missing other under (there w z (back z w same) other exists))

pub same_lookup : (z w : Zone) → IsSameZone z w → (name : List Label) (rtype : ℕ) (answer : Looked) → LooksUp z name rtype answer → LooksUp w name rtype answer
same_lookup z w same name rtype answer looked = record { within = under_apex z w same name looked.within; found = found z w same name rtype answer looked.found }

pub same_zone : (z w : Zone) → IsSameZone z w → IsZone z → IsZone w
same_zone z w same is = record {
  owners = all_by_member (λ (r : ZoneRecord). IsUnder r.owner w.apex) w.records (λ r in'. under_apex z w same r.owner (All-contains (λ (r : ZoneRecord). IsUnder r.owner z.apex) z.records r is.owners ((same.records_same r).1 in')));
  types = all_by_member (λ (r : ZoneRecord). IsProofType r.rtype → ⊥) w.records (λ r in'. All-contains (λ (r : ZoneRecord). IsProofType r.rtype → ⊥) z.records r is.types ((same.records_same r).1 in'));
}

pub same_set : (z w : Zone) → IsSameZone z w → (part : SetPart) → IsConsistentSet z part → IsConsistentSet w part
same_set z w same part true_set = record {
  apex = sym same.apex_same ∙ true_set.apex;
  data_there = λ octets. (λ in'. (same.records_same _).0 ((true_set.data_there octets).0 in'), λ has. (true_set.data_there octets).1 ((same.records_same _).1 has));
  not_empty = true_set.not_empty;
  live = live z w same part.owner true_set.live;
  authority = λ parted. true_set.authority (cut w z (back z w same) part.owner parted);
}

types : (z w : Zone) → IsSameZone z w → (name : List Label) (types : List ℕ) → TypesAgree z name types → TypesAgree w name types
types z w same name list agree rtype plain parent =
    let both = agree rtype plain (λ parted. parent (cut z w same name parted)) in
    (λ has. both.0 (type w z (back z w same) name rtype has), λ in'. type z w same name rtype (both.1 in'))

pub same_nsec : (z w : Zone) → IsSameZone z w → (part : NsecPart) → IsConsistentNsec z part → IsConsistentNsec w part
same_nsec z w same part is = record {
  apex = sym same.apex_same ∙ is.apex;
  owner_live = live z w same part.owner is.owner_live;
  next_live = live z w same part.next is.next_live;
  types_agree = types z w same part.owner part.types is.types_agree;
  none_between = λ name lives. is.none_between name (live w z (back z w same) name lives);
}

pub same_nsec3 : (z w : Zone) → IsSameZone z w → (nsec3 : Nsec3Part) → IsConsistentNsec3 z nsec3 → IsConsistentNsec3 w nsec3
same_nsec3 z w same nsec3 is = record {
  apex = sym same.apex_same ∙ is.apex;
  named = is.named;
  there = there z w same is.named is.there;
  hashed = is.hashed;
  types_agree = types z w same is.named nsec3.types is.types_agree;
  none_between = λ clear name exists. is.none_between clear name (there w z (back z w same) name exists);
}

pub same_clashes : (z w : Zone) → IsSameZone z w → (hash : List Label → List ℕ) (name : List Label) → IsClashFree z hash name → IsClashFree w hash name
same_clashes z w same hash name free = record {
  of_names = λ above other under within exists. free.of_names above other under (under_apex w z (back z w same) above within) (there w z (back z w same) other exists);
  of_sources = λ above other below within exists. free.of_sources above other below (under_apex w z (back z w same) above within) (there w z (back z w same) other exists);
}
