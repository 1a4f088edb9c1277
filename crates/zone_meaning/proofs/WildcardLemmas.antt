-- What NSECs that are true of a zone prove of a name that doesn't exist.
use Rattle.std.proofs.Common.{ℕ, List, ◌∷◌, sym, subst}
use Rattle.dname.specs.Name.{Label, IsUnder, asterisk}
use Rattle.dname.specs.declared.types.TheConstants.{CNAME_TYPE, DNAME_TYPE, NS_TYPE}
use Rattle.zone_meaning.specs.Zone.{Zone, IsZone, Exists}
use Rattle.zone_meaning.specs.Lookup.{Looked, Answer, NoData, NxDomain, LooksUp, IsClosestEncloser, Synthesizes, by_no_source, as_itself, by_a_wildcard}
use Rattle.zone_meaning.specs.Consistent.{NsecPart, SetPart, IsConsistentNsec, IsConsistentSet, TypesAgree}
use Rattle.zone_meaning.specs.Denial.{IsNoName, IsEmptyName, IsMissingName, IsNameError, IsWildcardWithoutType, IsEmptyWildcard, IsWildcardAnswer}
use Rattle.zone_meaning.proofs.ZoneLemmas.{live_exists}
use Rattle.zone_meaning.proofs.BarLemmas.{source_within}
use Rattle.zone_meaning.proofs.DenialLemmas.{made_by_types, made_by_set}
use Rattle.zone_meaning.proofs.CoveredLemmas.{next_below_where_exists, nothing, empty_exists, empty_lacks, empty_has_no_data, closest_by_ends}

pub no_name : (zone : Zone) (part : NsecPart) (name : List Label) → IsConsistentNsec zone part → IsNoName part name → Exists zone name → ⊥
no_name zone part name nsec none there = none.next_elsewhere (next_below_where_exists zone part nsec name none.inside there)

pub empty_name : (zone : Zone) (part : NsecPart) (name : List Label) (rtype : ℕ) → IsConsistentNsec zone part → IsUnder name zone.apex → IsEmptyName part name → LooksUp zone name rtype NoData
empty_name zone part name rtype nsec within empty = empty_has_no_data zone part nsec name empty.inside empty.next_below within rtype

module _ (zone : Zone) (is : IsZone zone) (part : NsecPart) (nsec : IsConsistentNsec zone part) (name encloser : List Label) (missing : IsMissingName part name encloser) where
  within : IsUnder name zone.apex
  within = subst (IsUnder name) (sym nsec.apex) missing.within

  absent : Exists zone name → ⊥
  absent = no_name zone part name nsec missing.no_name

  pub closest : IsClosestEncloser zone name encloser
  closest = closest_by_ends zone part nsec name missing.no_name.inside is within encloser missing.nearest absent

  by_source : (rtype : ℕ) (answer : Looked) → Synthesizes zone (asterisk ∷ encloser) rtype answer → LooksUp zone name rtype answer
  by_source rtype answer made = record { within = within; found = by_a_wildcard answer encloser (nothing zone part nsec name missing.no_name.inside missing.speaks rtype) absent closest made }

  by_empty : (source : NsecPart) (rtype : ℕ) → IsConsistentNsec zone source → IsEmptyName source (asterisk ∷ encloser) → Synthesizes zone (asterisk ∷ encloser) rtype NoData
  by_empty source rtype nsec' empty =
      let within' : IsUnder (asterisk ∷ encloser) zone.apex = source_within zone encloser closest.there.within in
      let lacks = empty_lacks zone source nsec' (asterisk ∷ encloser) empty.inside empty.next_below within' in
      as_itself NoData (empty_exists zone source nsec' (asterisk ∷ encloser) empty.inside empty.next_below within') (lacks NS_TYPE) (lacks rtype, lacks CNAME_TYPE) (λ _. lacks DNAME_TYPE)

pub name_error : (zone : Zone) (part source : NsecPart) (name encloser : List Label) (rtype : ℕ) → IsZone zone → IsConsistentNsec zone part → IsConsistentNsec zone source → IsNameError part source name encloser → LooksUp zone name rtype NxDomain
name_error zone part source name encloser rtype is nsec nsec' error =
    by_source zone is part nsec name encloser error.missing rtype NxDomain (by_no_source (no_name zone source (asterisk ∷ encloser) nsec' error.no_wildcard))

pub wildcard_without_type : (zone : Zone) (part source : NsecPart) (name encloser : List Label) (rtype : ℕ) → IsZone zone → IsConsistentNsec zone part → IsConsistentNsec zone source → IsWildcardWithoutType part source name encloser rtype → LooksUp zone name rtype NoData
wildcard_without_type zone part source name encloser rtype is nsec nsec' proof =
    by_source zone is part nsec name encloser proof.missing rtype NoData (made_by_types zone (asterisk ∷ encloser) source.types rtype
    (subst (Exists zone) proof.matches (live_exists zone is source.owner nsec'.owner_live))
    (subst (λ s. TypesAgree zone s source.types) proof.matches nsec'.types_agree)
    proof.denies)

pub empty_wildcard : (zone : Zone) (part source : NsecPart) (name encloser : List Label) (rtype : ℕ) → IsZone zone → IsConsistentNsec zone part → IsConsistentNsec zone source → IsEmptyWildcard part source name encloser → LooksUp zone name rtype NoData
empty_wildcard zone part source name encloser rtype is nsec nsec' proof =
    by_source zone is part nsec name encloser proof.missing rtype NoData (by_empty zone is part nsec name encloser proof.missing source rtype nsec' proof.empty)

pub wildcard_answer : (zone : Zone) (part : NsecPart) (set : SetPart) (name encloser : List Label) (rtype : ℕ) → IsZone zone → IsConsistentNsec zone part → IsConsistentSet zone set → IsWildcardAnswer part set name encloser rtype → LooksUp zone name rtype (Answer set.items)
wildcard_answer zone part set name encloser rtype is nsec true_set proof =
    let closest' = closest zone is part nsec name encloser proof.missing in
    by_source zone is part nsec name encloser proof.missing rtype (Answer set.items) (made_by_set zone set encloser rtype true_set closest'.there.within proof.answers
    (subst (Exists zone) proof.answers.owner (live_exists zone is set.owner true_set.live)))
