-- The DNAME above a name: what is found, and that each zone says so of which its set is true.
use Rattle.std.proofs.Common.{◌≡◌, ◌≢◌, ℕ, ◌<◌, ◌≤◌, List, [], ◌∷◌, ◌++◌, length, Option, None, Some, inl, inr, ⊎_elim, refl, sym, ◌∙◌, ap, subst, arith}
use Rattle.std.specs.Prelude.{◌⊎◌, nat_le, if◌then◌else◌, MatchOption, IfSome}
use Rattle.std.specs.List.{Contains}
use Rattle.std.specs.Option.{option_or}
use Rattle.std.proofs.lemmas.Bool.Decides.{leb_tells}
use Rattle.std.proofs.lemmas.Option.{none-some, same_Some, option_and_then_some}
use Rattle.facts.proofs.Lists.{here}
use Rattle.dname.specs.Name.{Label, IsUnder, wire_of}
use Rattle.dname.specs.NameData.{one_name_in}
use Rattle.dname.specs.declared.types.TheConstants.{DNAME_TYPE, DS_TYPE}
use Rattle.dname.proofs.NameDataLemmas.{one_item}
use Rattle.dname.proofs.SameLemmas.{same_or_not}
use Rattle.dname.proofs.UnderLemmas.{under_itself, under_through, under_is_longer, under_step}
use Rattle.zone_meaning.specs.Zone.{Zone, IsZone, IsBelow, HasType}
use Rattle.zone_meaning.specs.Lookup.{LooksUp, Redirect, MeetsCut, MeetsDname, at_a_dname}
use Rattle.zone_meaning.specs.Consistent.{SetPart, IsConsistentSet}
use Rattle.zone_meaning.proofs.ZoneLemmas.{live_exists}
use Rattle.cache_meaning.specs.Held.{Held}
use Rattle.cache_meaning.specs.Evidence.{usable_set}
use Rattle.soundness.specs.True.{set_part}
use Rattle.resolver.specs.Target.{replaced, target_of}
use Rattle.resolver.specs.Dname.{Dname, dname_of, dname_at, topmost_dname}
use Rattle.resolver.specs.SoundWalk.{IsSoundRedirection}
use Rattle.resolver.proofs.ChoiceLemmas.{either_of, mapped, SetFound, set_found}
use Rattle.resolver.proofs.TargetLemmas.{front_taken}

-- ---- the DNAME that is found

pub record DnameFound (held : Held) (now : ℕ) (apex owner : List Label) (dname : Dname) : Type 0 where
  pub set_is : SetFound held now apex owner DNAME_TYPE dname.set
  pub suffix_is : one_name_in dname.set.items ≡ Some dname.suffix

pub dname_found : (held : Held) (now : ℕ) (apex owner : List Label) (dname : Dname) → dname_at held now apex owner ≡ Some dname → DnameFound held now apex owner dname
dname_found held now apex owner dname is =
    option_and_then_some dname_of (usable_set held now apex owner DNAME_TYPE) dname is
    (λ set found made.
    let made_of = mapped (λ suffix. record { set = set; suffix = suffix }) (one_name_in set.items) dname made in
    subst (DnameFound held now apex owner) made_of.2
    (record { set_is = set_found held now apex owner DNAME_TYPE set found; suffix_is = made_of.1 }))

below_longer : (label : Label) (rest owner : List Label) → IsUnder rest owner → IsBelow (label ∷ rest) owner
below_longer label rest owner under = (
  (label ∷ under.0, ap (λ l. label ∷ l) under.1),
  λ same. let long = under_is_longer rest (label ∷ rest) (subst (IsUnder rest) (sym same) under) in omega (arith, long),
)

-- a name above another is its parent, or above that
above_parent : (label : Label) (rest owner : List Label) → IsBelow (label ∷ rest) owner → (rest ≡ owner) ⊎ IsBelow rest owner
above_parent label rest owner below =
    ⊎_elim (λ (same : label ∷ rest ≡ owner). absurd (below.1 same))
    (λ (under : IsUnder rest owner). ⊎_elim (λ (same : rest ≡ owner). inl same) (λ (apart : rest ≢ owner). inr (under, apart)) (same_or_not rest owner))
    (under_step label rest owner below.0)

module _ (held : Held) (now : ℕ) (apex : List Label) where
  pub topmost_found : (name : List Label) (dname : Dname) → topmost_dname held now apex name ≡ Some dname → (owner : List Label) × IsBelow name owner × DnameFound held now apex owner dname
  topmost_found [] dname is = absurd (none-some dname is)
  topmost_found (label ∷ rest) dname is =
      ⊎_elim
      (λ (above : topmost_dname held now apex rest ≡ Some dname).
      let found = topmost_found rest dname above in (found.0, below_longer label rest found.0 found.1.0, found.2))
      (λ (here : dname_at held now apex rest ≡ Some dname).
      (rest, below_longer label rest rest (under_itself rest), dname_found held now apex rest dname here))
      (either_of (topmost_dname held now apex rest) (dname_at held now apex rest) dname is)

  -- its owner is the one that is sought
  pub topmost_below : (name : List Label) (dname : Dname) → topmost_dname held now apex name ≡ Some dname → IsBelow name dname.set.owner × DnameFound held now apex dname.set.owner dname
  topmost_below name dname is =
      let found = topmost_found name dname is in
      let same : found.0 ≡ dname.set.owner = sym found.2.set_is.of_owner in
      (subst (IsBelow name) same found.1, subst (λ owner. DnameFound held now apex owner dname) same found.2)

  -- the name is under it
  pub under_if_some : (name : List Label) (found : Option Dname) → found ≡ topmost_dname held now apex name → IfSome found (λ dname. IsUnder name dname.set.owner)
  under_if_some name None is = tt
  under_if_some name (Some dname) is = (topmost_below name dname (sym is)).0.0

  -- above each name with a DNAME, or at it, stands the topmost
  under_topmost : (name owner : List Label) (other : Dname) → IsBelow name owner → dname_at held now apex owner ≡ Some other
      → (dname : Dname) × (topmost_dname held now apex name ≡ Some dname) × IsUnder owner dname.set.owner
  under_topmost [] owner other below is = absurd (below.1 (root below.0.0 owner below.0.1))
    where
      root : (front owner : List Label) → [] ≡ front ++ owner → [] ≡ owner
      root [] owner same = same
      root (label ∷ front) owner same = cc
  under_topmost (label ∷ rest) owner other below is =
      ⊎_elim
      (λ (same : rest ≡ owner). at_parent (topmost_dname held now apex rest) refl same)
      (λ (above : IsBelow rest owner).
      let found = under_topmost rest owner other above is in
      (found.0, ap (λ o. option_or o (dname_at held now apex rest)) found.1, found.2))
      (above_parent label rest owner below)
    where
      at_parent : (o : Option Dname) → topmost_dname held now apex rest ≡ o → rest ≡ owner
          → (dname : Dname) × (option_or (topmost_dname held now apex rest) (dname_at held now apex rest) ≡ Some dname) × IsUnder owner dname.set.owner
      at_parent (Some dname) top same = (
        dname,
        ap (λ o. option_or o (dname_at held now apex rest)) top,
        subst (λ n. IsUnder n dname.set.owner) same (topmost_below rest dname top).0.0,
      )
      at_parent None top same = (
        other,
        ap (λ o. option_or o (dname_at held now apex rest)) top ∙ ap (dname_at held now apex) same ∙ is,
        subst (IsUnder owner) (sym (dname_found held now apex owner other is).set_is.of_owner) (under_itself owner),
      )

  pub topmost_is_topmost : (name owner : List Label) (dname other : Dname) → topmost_dname held now apex name ≡ Some dname → IsBelow name owner → dname_at held now apex owner ≡ Some other → IsUnder owner dname.set.owner
  topmost_is_topmost name owner dname other is below there =
      let found = under_topmost name owner other below there in
      subst (λ (d : Dname). IsUnder owner d.set.owner) (same_Some found.0 dname (sym found.1 ∙ is)) found.2

-- ---- what a zone says

some_item : (items : List (List ℕ)) → items ≢ [] → (octets : List ℕ) × Contains items octets
some_item [] some = absurd (some refl)
some_item (octets ∷ items) some = (octets, here octets items)

pub dname_redirects : (zone : Zone) (set : SetPart) (name : List Label) (rtype : ℕ) → IsZone zone → IsConsistentSet zone set → set.rtype ≡ DNAME_TYPE → IsBelow name set.owner → LooksUp zone name rtype (Redirect set.owner)
dname_redirects zone set name rtype is true_set of_type below =
    let item : (octets : List ℕ) × Contains set.items octets = some_item set.items true_set.not_empty in
    let has : HasType zone set.owner DNAME_TYPE = subst (HasType zone set.owner) of_type (item.0, (true_set.data_there item.0).0 item.1) in
    let ds_apart : DNAME_TYPE ≡ DS_TYPE → ⊥ = λ same. omega arith in
    record {
      within = under_through name set.owner zone.apex below.0 (live_exists zone is set.owner true_set.live).within;
      found = at_a_dname set.owner
          (record {
            met = inr (record { there = has; above = below });
            topmost = λ another met above. ⊎_elim
                (λ (cut : MeetsCut zone name rtype another). true_set.live.unbarred another (inl cut.parted) above)
                (λ (dname : MeetsDname zone name another). true_set.live.unbarred another (inr dname.there) above)
                met;
          })
          (λ cut. ds_apart (sym of_type ∙ true_set.authority cut));
    }

-- ---- the target

-- the target is there just where it fits a name
target_fits : (name owner suffix front : List Label) → name ≡ front ++ owner
    → MatchOption (target_of name owner suffix) (255 < length (wire_of (front ++ suffix))) (λ made. (made ≡ front ++ suffix) × (length (wire_of made) ≤ 255))
target_fits name owner suffix front is =
    let same : replaced name owner suffix ≡ front ++ suffix = ap (λ l. l ++ suffix) (front_taken name front owner is) in
    subst (λ made. MatchOption (if nat_le (length (wire_of made)) 255 then Some made else None) (255 < length (wire_of (front ++ suffix))) (λ it. (it ≡ front ++ suffix) × (length (wire_of it) ≤ 255)))
    (sym same) (by (front ++ suffix))
  where
    by : (made : List Label) → MatchOption (if nat_le (length (wire_of made)) 255 then Some made else None) (255 < length (wire_of made)) (λ it. (it ≡ made) × (length (wire_of it) ≤ 255))
    by made = elim (leb_tells (length (wire_of made)) 255) [
      | inl fits ↦ rw fits.0 (refl, fits.1)
      | inr long ↦ rw long.0 long.1
    ]

-- the redirection by the topmost
pub redirection_sound : (held : Held) (now qtype : ℕ) (apex name : List Label) (dname : Dname) → topmost_dname held now apex name ≡ Some dname
    → IsSoundRedirection qtype name dname.set (target_of name dname.set.owner dname.suffix)
redirection_sound held now qtype apex name dname top =
    let found = topmost_below held now apex name dname top in
    let item = one_item dname.set.items dname.suffix found.1.suffix_is in
    record {
      redirects = λ zone is true_set. dname_redirects zone (set_part dname.set) name qtype is true_set found.1.set_is.of_type found.0;
      becomes = record {
        front = found.0.0.0;
        octets = item.0;
        suffix = dname.suffix;
        under = found.0.0.1;
        apart = found.0.1;
        item = item.1;
        reads = item.2;
        replaced = target_fits name dname.set.owner dname.suffix found.0.0.0 found.0.0.1;
      };
    }
