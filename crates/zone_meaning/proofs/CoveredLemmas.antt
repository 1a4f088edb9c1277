-- What an NSEC that is true of a zone proves of a name inside its arc.
use Rattle.std.proofs.Common.{◌≡◌, ◌≢◌, ℕ, List, ◌≤◌, length, sym, subst, ◌⊎◌, inl, inr, ⊎_elim}
use Rattle.std.specs.declared.cmp.Ordering.TheVariants.{Less}
use Rattle.dname.specs.Name.{Label, IsUnder, IsCommon, canonical_cmp}
use Rattle.dname.specs.Order.{canonical_total, canonical_equal}
use Rattle.dname.specs.Arc.{IsInside}
use Rattle.dname.specs.declared.types.TheConstants.{CNAME_TYPE, NS_TYPE}
use Rattle.dname.proofs.TogetherLemmas.{above_is_first, stands_together}
use Rattle.dname.proofs.ArcLemmas.{not_before_itself, before_or_after, left_of_inside, right_of_inside}
use Rattle.dname.proofs.SameLemmas.{same_or_not}
use Rattle.dname.proofs.OrderLemmas.{not_before}
use Rattle.dname.proofs.UnderLemmas.{longer_is_under, under_itself, under_through, under_both}
use Rattle.zone_meaning.specs.Zone.{Zone, IsZone, IsBelow, IsBar, IsLive, IsOwner, HasType, Exists}
use Rattle.zone_meaning.specs.Lookup.{LooksUp, NoData, MeetsNothing, IsClosestEncloser, at_the_name}
use Rattle.zone_meaning.specs.Consistent.{NsecPart, IsConsistentNsec}
use Rattle.zone_meaning.specs.Denial.{SpeaksBelow, IsEncloserBy}
use Rattle.zone_meaning.proofs.ZoneLemmas.{owner_within}
use Rattle.zone_meaning.proofs.BarLemmas.{live_bar, unbarred_meets_nothing, exists_unbarred}
use Rattle.zone_meaning.proofs.DenialLemmas.{no_bar_by_types}

-- ---- names

-- what is not before a name that is not before another is not before that
not_before_through : (x y z : List Label) → canonical_cmp x y ≢ Less → canonical_cmp y z ≢ Less → canonical_cmp x z ≢ Less
not_before_through x y z h g less = ⊎_elim
    (λ same. g (subst (λ n. canonical_cmp n z ≡ Less) same less))
    (λ (apart : x ≢ y). ⊎_elim h (λ back. g (canonical_total.trans y x z back less)) (before_or_after canonical_cmp canonical_total canonical_equal x y apart))
    (same_or_not x y)

under_not_before : (name ancestor : List Label) → IsUnder name ancestor → canonical_cmp name ancestor ≢ Less
under_not_before name ancestor under less = ⊎_elim
    (λ same. not_before_itself canonical_cmp canonical_total ancestor (subst (λ n. canonical_cmp n ancestor ≡ Less) same less))
    (λ (apart : name ≢ ancestor). not_before ancestor name (above_is_first name ancestor under apart) less)
    (same_or_not name ancestor)

-- ---- one NSEC, and a name inside its arc

module _ (zone : Zone) (part : NsecPart) (nsec : IsConsistentNsec zone part) (name : List Label) (inside : IsInside canonical_cmp part.owner part.next name) where
  pub not_live : IsLive zone name → ⊥
  not_live live = nsec.none_between name live inside

  outside : (y : List Label) → IsLive zone y → IsInside canonical_cmp part.owner part.next y → ⊥
  outside y live there = nsec.none_between y live there

  -- of a live name before it, what is above both is above the owner too
  pub owner_between : (above y : List Label) → IsUnder name above → IsLive zone y → IsUnder y above → canonical_cmp y name ≡ Less → IsUnder part.owner above
  owner_between above y over live under less =
      let h : (canonical_cmp part.owner name ≡ Less) × (canonical_cmp part.owner y ≢ Less) =
      left_of_inside canonical_cmp canonical_total canonical_equal part.owner part.next name y inside less (outside y live) in
      stands_together above part.owner name over (not_before_through part.owner y above h.1 (under_not_before y above under)) (not_before part.owner name h.0)

  -- and of one after it, above the next owner
  pub next_between : (above y : List Label) → IsUnder name above → IsLive zone y → IsUnder y above → canonical_cmp name y ≡ Less → IsUnder part.next above
  next_between above y over live under less =
      let h : (canonical_cmp name part.next ≡ Less) × (canonical_cmp y part.next ≢ Less) =
      right_of_inside canonical_cmp canonical_total canonical_equal part.owner part.next name y inside less (outside y live) in
      stands_together above part.next y under (not_before_through part.next name above (not_before name part.next h.0) (under_not_before name above over)) h.1

  pub end_between : (above y : List Label) → IsUnder name above → IsLive zone y → IsUnder y above → IsUnder part.owner above ⊎ IsUnder part.next above
  end_between above y over live under = ⊎_elim
      (λ less. inl (owner_between above y over live under less))
      (λ less. inr (next_between above y over live under less))
      (before_or_after canonical_cmp canonical_total canonical_equal y name (λ e. not_live (subst (IsLive zone) e live)))

  -- where it exists, the next owner is below it
  pub next_below_where_exists : Exists zone name → IsUnder part.next name
  next_below_where_exists there =
      let apart : there.owner ≢ name = λ e. not_live (subst (IsLive zone) e there.live) in
      next_between name there.owner (under_itself name) there.live there.under (above_is_first there.owner name there.under apart)

  -- ---- bars

  -- the topmost bar over the name is the owner
  owner_is : (top : List Label) → IsBar zone top → IsLive zone top → IsBelow name top → top ≡ part.owner
  owner_is top is live below = ⊎_elim
      (λ same. same)
      (λ (apart : top ≢ part.owner). absurd (nsec.owner_live.unbarred top is (owner_between top top below.0 live (under_itself top) (above_is_first name top below.0 below.1), λ e. apart (sym e))))
      (same_or_not top part.owner)

  owner_bars : (bar : List Label) → IsBar zone bar → IsBelow name bar → IsUnder name part.owner × IsBar zone part.owner
  owner_bars bar is below =
      let h : (top : List Label) × IsUnder bar top × IsBar zone top × IsLive zone top = live_bar zone bar is in
      let below' : IsBelow name h.0 = (under_through name bar h.0 below.0 h.1, λ e. below.1 (under_both name bar below.0 (subst (IsUnder bar) (sym e) h.1))) in
      let same : h.0 ≡ part.owner = owner_is h.0 h.2 h.3 below' in
      (subst (IsUnder name) same below'.0, subst (IsBar zone) same h.2)

  pub no_bar_above : SpeaksBelow part name → (bar : List Label) → IsBar zone bar → IsBelow name bar → ⊥
  no_bar_above speaks bar is below =
      let h : IsUnder name part.owner × IsBar zone part.owner = owner_bars bar is below in
      no_bar_by_types zone part.owner part.zone part.types nsec.apex nsec.types_agree (speaks.no_dname h.0) (speaks.no_cut h.0) h.1

  -- ---- where no bar is above it, it has no records

  pub not_owner : ((bar : List Label) → IsBar zone bar → IsBelow name bar → ⊥) → IsOwner zone name → ⊥
  not_owner free owner = not_live (record { owner = owner; unbarred = free })

  pub nothing : SpeaksBelow part name → (rtype : ℕ) → MeetsNothing zone name rtype
  nothing speaks rtype =
      let free = no_bar_above speaks in
      unbarred_meets_nothing zone name rtype free (λ cut. absurd (not_owner free (NS_TYPE, cut.1)))

  -- ---- an empty non-terminal

  module _ (next_below : IsUnder part.next name) (within : IsUnder name zone.apex) where
    pub empty_exists : Exists zone name
    empty_exists = record { within = within; owner = part.next; live = nsec.next_live; under = next_below }

    pub empty_lacks : (rtype : ℕ) → HasType zone name rtype → ⊥
    empty_lacks rtype has = not_owner (exists_unbarred zone name empty_exists) (rtype, has)

    pub empty_has_no_data : (rtype : ℕ) → LooksUp zone name rtype NoData
    empty_has_no_data rtype = record {
      within = within;
      found = at_the_name NoData (unbarred_meets_nothing zone name rtype (exists_unbarred zone name empty_exists) (λ cut. absurd (empty_lacks NS_TYPE cut.1))) empty_exists
          (empty_lacks rtype, empty_lacks CNAME_TYPE);
    }

  -- ---- the closest encloser

  module _ (is : IsZone zone) (within : IsUnder name zone.apex) (encloser : List Label) (by_ends : IsEncloserBy part name encloser) (missing : Exists zone name → ⊥) where
    live_within : (y : List Label) → IsLive zone y → IsUnder y zone.apex
    live_within y live = owner_within zone is y live.owner.0 live.owner.1.0 live.owner.1.1

    encloser_exists : Exists zone encloser
    encloser_exists = ⊎_elim
        (λ under. record { within = encloser_within; owner = part.owner; live = nsec.owner_live; under = under })
        (λ under. record { within = encloser_within; owner = part.next; live = nsec.next_live; under = under })
        by_ends.shared
      where
        encloser_within : IsUnder encloser zone.apex
        encloser_within = by_ends.longest zone.apex within (inl (live_within part.owner nsec.owner_live))

    pub closest_by_ends : IsClosestEncloser zone name encloser
    closest_by_ends = record {
      there = encloser_exists;
      above = (by_ends.above, λ e. missing (subst (Exists zone) (sym e) encloser_exists));
      longest = λ another there below. by_ends.longest another below.0 (end_between another there.owner below.0 there.live there.under);
    }

-- ---- the longer of two common ancestors

longer_is_nearest : (part : NsecPart) (name long short : List Label) → IsUnder part.owner long ⊎ IsUnder part.next long → IsUnder name long → IsUnder name short → length short ≤ length long
    → ((another : List Label) → IsUnder name another → IsUnder part.owner another ⊎ IsUnder part.next another → IsUnder long another ⊎ IsUnder short another) → IsEncloserBy part name long
longer_is_nearest part name long short shared above above' longer each = record {
  above = above;
  shared = shared;
  longest = λ another under ends. ⊎_elim (λ up. up) (λ up. under_through long short another (longer_is_under name long short above above' longer) up) (each another under ends);
}

pub with_owner_is_nearest : (part : NsecPart) (name first second : List Label) → IsCommon name part.owner first → IsCommon name part.next second → length second ≤ length first → IsEncloserBy part name first
with_owner_is_nearest part name first second common common' longer = longer_is_nearest part name first second (inl common.second) common.first common'.first longer
    (λ another under ends. ⊎_elim (λ up. inl (common.longest another under up)) (λ up. inr (common'.longest another under up)) ends)

pub with_next_is_nearest : (part : NsecPart) (name first second : List Label) → IsCommon name part.owner first → IsCommon name part.next second → length first ≤ length second → IsEncloserBy part name second
with_next_is_nearest part name first second common common' longer = longer_is_nearest part name second first (inr common'.second) common'.first common.first longer
    (λ another under ends. ⊎_elim (λ up. inr (common.longest another under up)) (λ up. inl (common'.longest another under up)) ends)

-- there is one such name
pub one_nearest : (part : NsecPart) (name x y : List Label) → IsEncloserBy part name x → IsEncloserBy part name y → x ≡ y
one_nearest part name x y is is' = under_both x y (is.longest y is'.above is'.shared) (is'.longest x is.above is.shared)
