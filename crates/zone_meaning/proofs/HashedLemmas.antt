-- What NSEC3s that are true of a zone prove of it.
use Rattle.std.proofs.Common.{◌≡◌, ◌≢◌, ℕ, List, [], ◌∷◌, refl, sym, ◌∙◌, subst, ◌⊎◌, inl, inr, ⊎_elim}
use Rattle.dname.specs.Name.{Label, IsUnder, asterisk}
use Rattle.dname.proofs.SameLemmas.{same_or_not}
use Rattle.dname.proofs.UnderLemmas.{under_itself, under_through, under_step}
use Rattle.zone_meaning.specs.Zone.{Zone, IsBelow, IsBar, IsLive, Exists}
use Rattle.zone_meaning.specs.Lookup.{Looked, Answer, NoData, NxDomain, LooksUp, IsClosestEncloser, Synthesizes, by_no_source, by_a_wildcard}
use Rattle.zone_meaning.specs.Consistent.{SetPart, IsConsistentSet, TypesAgree}
use Rattle.zone_meaning.specs.Hashed.{Nsec3Part, IsConsistentNsec3, IsClashFree}
use Rattle.zone_meaning.specs.HashedDenial.{IsHashedMatchWithoutType, IsNoHashedName, IsNextCloserMissing, IsHashedNameError, IsHashedWildcardWithoutType, IsHashedWildcardAnswer}
use Rattle.zone_meaning.proofs.ZoneLemmas.{above_one_name}
use Rattle.zone_meaning.proofs.LookupLemmas.{one_encloser}
use Rattle.zone_meaning.proofs.BarLemmas.{live_bar, unbarred_meets_nothing, exists_unbarred, exists_above, source_within, longer_is_not_above}
use Rattle.zone_meaning.proofs.DenialLemmas.{no_data_by_types, no_bar_by_types, made_by_types, made_by_set}

-- ---- a match

-- the name that an NSEC3 is of
named_by_name : (zone : Zone) (part : Nsec3Part) (name above : List Label) (nsec3 : IsConsistentNsec3 zone part) → IsClashFree zone part.hash name → IsUnder name above → IsUnder above zone.apex → part.hash above ≡ part.owner → nsec3.named ≡ above
named_by_name zone part name above nsec3 clash under within matches = clash.of_names above nsec3.named under within nsec3.there (nsec3.hashed ∙ sym matches)

pub no_data_by_a_hash : (zone : Zone) (part : Nsec3Part) (name : List Label) (rtype : ℕ) → IsConsistentNsec3 zone part → IsClashFree zone part.hash name → IsHashedMatchWithoutType part name rtype → LooksUp zone name rtype NoData
no_data_by_a_hash zone part name rtype nsec3 clash proof =
    let same : nsec3.named ≡ name = named_by_name zone part name name nsec3 clash (under_itself name) (subst (IsUnder name) (sym nsec3.apex) proof.within) proof.matches in
    no_data_by_types zone name part.zone part.types rtype nsec3.apex (subst (Exists zone) same nsec3.there) (subst (λ n. TypesAgree zone n part.types) same nsec3.types_agree) proof.denies

-- ---- a cover

pub no_name_by_a_hash : (zone : Zone) (part : Nsec3Part) (name : List Label) → IsConsistentNsec3 zone part → IsNoHashedName part name → Exists zone name → ⊥
no_name_by_a_hash zone part name nsec3 none there = nsec3.none_between none.no_opt_out name there none.inside

-- ---- a name whose next closer name doesn't exist

module _ (zone : Zone) (name encloser : List Label) (label : Label) (within : IsUnder encloser zone.apex) (above : IsUnder name (label ∷ encloser)) (absent : Exists zone (label ∷ encloser) → ⊥) where
  closer_within : IsUnder (label ∷ encloser) zone.apex
  closer_within = under_through (label ∷ encloser) encloser zone.apex (label ∷ [], refl) within

  none_below : (other : List Label) → IsUnder other (label ∷ encloser) → Exists zone other → ⊥
  none_below other under there = absent (exists_above zone (label ∷ encloser) other there under closer_within)

  name_within : IsUnder name zone.apex
  name_within = under_through name (label ∷ encloser) zone.apex above closer_within

  -- a name above it is at or below the next closer name, or at or above the encloser
  low_or_high : (other : List Label) → IsUnder name other → IsUnder other (label ∷ encloser) ⊎ IsUnder encloser other
  low_or_high other under = ⊎_elim
      (λ low. inl low)
      (λ high. ⊎_elim
      (λ same. inl (subst (λ n. IsUnder n (label ∷ encloser)) same (under_itself (label ∷ encloser))))
      (λ up. inr up)
      (under_step label encloser other high))
      (above_one_name name other (label ∷ encloser) under above)

  closest : Exists zone encloser → IsClosestEncloser zone name encloser
  closest there = record {
    there = there;
    above = (
      under_through name (label ∷ encloser) encloser above (label ∷ [], refl),
      λ e. none_below name above (subst (Exists zone) (sym e) there),
    );
    longest = λ another there' below. ⊎_elim (λ low. absurd (none_below another low there')) (λ up. up) (low_or_high another below.0);
  }

  module _ (free : (bar : List Label) → IsBar zone bar → IsUnder encloser bar → ⊥) where
    -- the topmost bar is live, so it isn't at or below the next closer name
    no_bar : (bar : List Label) → IsBar zone bar → IsUnder name bar → ⊥
    no_bar bar is under =
        let h : (top : List Label) × IsUnder bar top × IsBar zone top × IsLive zone top = live_bar zone bar is in
        ⊎_elim
        (λ low. none_below h.0 low (record {
          within = under_through h.0 (label ∷ encloser) zone.apex low closer_within;
          owner = h.0;
          live = h.3;
          under = under_itself h.0;
        }))
        (λ up. free h.0 h.2 up)
        (low_or_high h.0 (under_through name bar h.0 under h.1))

    pub by_encloser : (rtype : ℕ) (answer : Looked) → Exists zone encloser → Synthesizes zone (asterisk ∷ encloser) rtype answer → LooksUp zone name rtype answer
    by_encloser rtype answer there made = record {
      within = name_within;
      found = by_a_wildcard answer encloser
          (unbarred_meets_nothing zone name rtype (λ bar is below. no_bar bar is below.0) (λ cut. absurd (no_bar name (inl cut) (under_itself name))))
          (none_below name above) (closest there) made;
    }

  -- where the wildcard exists, the encloser does, and no bar is at or above it
  pub by_existing_wildcard : (rtype : ℕ) (answer : Looked) → Exists zone (asterisk ∷ encloser) → Synthesizes zone (asterisk ∷ encloser) rtype answer → LooksUp zone name rtype answer
  by_existing_wildcard rtype answer there made = by_encloser
      (λ bar is up. exists_unbarred zone (asterisk ∷ encloser) there bar is
      (under_through (asterisk ∷ encloser) encloser bar (asterisk ∷ [], refl) up, longer_is_not_above asterisk encloser bar up))
      rtype answer (exists_above zone encloser (asterisk ∷ encloser) there (asterisk ∷ [], refl) within) made

-- ---- the laws

pub encloser_above : (part : Nsec3Part) (name encloser : List Label) → IsNextCloserMissing part name encloser → IsBelow name encloser
encloser_above part name encloser missing = (
  under_through name (missing.label ∷ encloser) encloser missing.above (missing.label ∷ [], refl),
  λ e. longer_is_not_above missing.label encloser (missing.label ∷ encloser) (subst (λ n. IsUnder n (missing.label ∷ encloser)) e missing.above) refl,
)

module _ (zone : Zone) (part : Nsec3Part) (nsec3 : IsConsistentNsec3 zone part) (name encloser : List Label) (missing : IsNextCloserMissing part name encloser) where
  encloser_within : IsUnder encloser zone.apex
  encloser_within = subst (IsUnder encloser) (sym nsec3.apex) missing.within

  closer_absent : Exists zone (missing.label ∷ encloser) → ⊥
  closer_absent = no_name_by_a_hash zone part (missing.label ∷ encloser) nsec3 missing.no_name

  pub closest_by_hash : Exists zone encloser → IsClosestEncloser zone name encloser
  closest_by_hash = closest zone name encloser missing.label encloser_within missing.above closer_absent

  by_wildcard : (rtype : ℕ) (answer : Looked) → Exists zone (asterisk ∷ encloser) → Synthesizes zone (asterisk ∷ encloser) rtype answer → LooksUp zone name rtype answer
  by_wildcard = by_existing_wildcard zone name encloser missing.label encloser_within missing.above closer_absent

  error_in : (on source : Nsec3Part) (rtype : ℕ) → IsConsistentNsec3 zone on → IsConsistentNsec3 zone source → IsClashFree zone on.hash name → IsHashedNameError part on source name encloser → LooksUp zone name rtype NxDomain
  error_in on source rtype nsec3' nsec3'' clash proof =
      by_encloser zone name encloser missing.label encloser_within missing.above closer_absent free rtype NxDomain there
      (by_no_source (no_name_by_a_hash zone source (asterisk ∷ encloser) nsec3'' proof.no_wildcard))
    where
      same : nsec3'.named ≡ encloser
      same = named_by_name zone on name encloser nsec3' clash (encloser_above part name encloser missing).0 encloser_within proof.nearest.matches

      there : Exists zone encloser
      there = subst (Exists zone) same nsec3'.there

      no_bar_here : IsBar zone encloser → ⊥
      no_bar_here = no_bar_by_types zone encloser on.zone on.types nsec3'.apex (subst (λ n. TypesAgree zone n on.types) same nsec3'.types_agree) proof.nearest.no_dname proof.nearest.no_cut

      free : (bar : List Label) → IsBar zone bar → IsUnder encloser bar → ⊥
      free bar is up = ⊎_elim
          (λ same'. no_bar_here (subst (IsBar zone) (sym same') is))
          (λ (apart : encloser ≢ bar). exists_unbarred zone encloser there bar is (up, apart))
          (same_or_not encloser bar)

pub answer_by_hashes : (zone : Zone) (part : Nsec3Part) (set : SetPart) (name encloser : List Label) (rtype : ℕ) → IsConsistentNsec3 zone part → IsConsistentSet zone set → IsHashedWildcardAnswer part set name encloser rtype → LooksUp zone name rtype (Answer set.items)
answer_by_hashes zone part set name encloser rtype nsec3 true_set proof =
    by_wildcard zone part nsec3 name encloser proof.missing rtype (Answer set.items) there (made_by_set zone set encloser rtype true_set within proof.answers there)
  where
    within : IsUnder encloser zone.apex
    within = encloser_within zone part nsec3 name encloser proof.missing

    there : Exists zone (asterisk ∷ encloser)
    there = record {
      within = source_within zone encloser within;
      owner = set.owner;
      live = true_set.live;
      under = subst (IsUnder set.owner) proof.answers.owner (under_itself set.owner);
    }

pub no_data_by_hashes : (zone : Zone) (part source : Nsec3Part) (name encloser : List Label) (rtype : ℕ) → IsConsistentNsec3 zone part → IsConsistentNsec3 zone source → IsClashFree zone source.hash name → IsHashedWildcardWithoutType part source name encloser rtype → LooksUp zone name rtype NoData
no_data_by_hashes zone part source name encloser rtype nsec3 nsec3' clash proof =
    let same : nsec3'.named ≡ asterisk ∷ encloser =
    clash.of_sources encloser nsec3'.named (encloser_above part name encloser proof.missing) (encloser_within zone part nsec3 name encloser proof.missing) nsec3'.there (nsec3'.hashed ∙ sym proof.matches) in
    let there : Exists zone (asterisk ∷ encloser) = subst (Exists zone) same nsec3'.there in
    by_wildcard zone part nsec3 name encloser proof.missing rtype NoData there
    (made_by_types zone (asterisk ∷ encloser) source.types rtype there (subst (λ s. TypesAgree zone s source.types) same nsec3'.types_agree) proof.denies)

pub name_error_by_hashes : (zone : Zone) (part on source : Nsec3Part) (name encloser : List Label) (rtype : ℕ) → IsConsistentNsec3 zone part → IsConsistentNsec3 zone on → IsConsistentNsec3 zone source → IsClashFree zone on.hash name → IsHashedNameError part on source name encloser → LooksUp zone name rtype NxDomain
name_error_by_hashes zone part on source name encloser rtype nsec3 nsec3' nsec3'' clash proof =
    error_in zone part nsec3 name encloser proof.missing on source rtype nsec3' nsec3'' clash proof

pub one_open_encloser : (zone : Zone) (part other : Nsec3Part) (name x y : List Label) → IsConsistentNsec3 zone part → IsConsistentNsec3 zone other → IsNextCloserMissing part name x → IsNextCloserMissing other name y → Exists zone x → Exists zone y → x ≡ y
one_open_encloser zone part other name x y nsec3 nsec3' missing missing' there there' =
    one_encloser zone name x y (closest_by_hash zone part nsec3 name x missing there) (closest_by_hash zone other nsec3' name y missing' there')
