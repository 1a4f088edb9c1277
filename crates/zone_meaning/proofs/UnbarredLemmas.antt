-- Where no bar is above a name, the name exists just where an owner is at or below it; so the longest name that it shares with
-- an owner is its closest encloser.
use Rattle.std.proofs.Common.{◌≡◌, ◌≢◌, ℕ, List, ◌∷◌, sym, subst, ◌⊎◌, inl, inr, ⊎_elim}
use Rattle.dname.specs.Name.{Label, IsUnder, asterisk}
use Rattle.dname.proofs.SameLemmas.{same_or_not}
use Rattle.dname.proofs.UnderLemmas.{under_itself, under_through, under_both, under_step}
use Rattle.zone_meaning.specs.Zone.{Zone, IsZone, IsBelow, IsCut, IsBar, IsOwner, Exists}
use Rattle.zone_meaning.specs.Lookup.{MeetsNothing, IsClosestEncloser}
use Rattle.zone_meaning.specs.ZoneTable.{IsUnbarred, IsReached}
use Rattle.zone_meaning.proofs.ZoneLemmas.{above_one_name, owner_within}
use Rattle.zone_meaning.proofs.ZoneTests.{is_bar, bar_decides}
use Rattle.zone_meaning.proofs.AncestorLemmas.{topmost_or_none}
use Rattle.zone_meaning.proofs.BarLemmas.{bar_owner}

pub owner_under : (zone : Zone) → IsZone zone → (owner : List Label) → IsOwner zone owner → IsUnder owner zone.apex
owner_under zone is owner has = owner_within zone is owner has.0 has.1.0 has.1.1

pub nothing_is_free : (zone : Zone) (name : List Label) (rtype : ℕ) → MeetsNothing zone name rtype → IsUnbarred zone name
nothing_is_free zone name rtype nothing bar is below = ⊎_elim
    (λ (cut : IsCut zone bar). nothing bar (inl (record { parted = cut; above = below.0; asked = λ same. absurd (below.1 (sym same)) })))
    (λ dname. nothing bar (inr (record { there = dname; above = below })))
    is

pub reached_exists : (zone : Zone) (name : List Label) → IsUnder name zone.apex → IsUnbarred zone name → IsReached zone name → Exists zone name
reached_exists zone name within free reached = ⊎_elim
    (λ (h : (x : List Label) × IsUnder reached.0 x × IsBar zone x × ((y : List Label) → IsBar zone y → IsBelow x y → ⊥)).
    by h.0 h.2 h.3 (λ under. by_bar h.0 h.2 h.3 under) (above_one_name reached.0 h.0 name h.1 reached.2))
    (λ none. record { within = within; owner = reached.0; live = record { owner = reached.1; unbarred = λ bar is below. none bar below.0 is }; under = reached.2 })
    (topmost_or_none (IsBar zone) (is_bar zone) (bar_decides zone) reached.0)
  where
    by_bar : (x : List Label) → IsBar zone x → ((y : List Label) → IsBar zone y → IsBelow x y → ⊥) → IsUnder x name → Exists zone name
    by_bar x bar top under = record { within = within; owner = x; live = record { owner = bar_owner zone x bar; unbarred = top }; under = under }

    by : (x : List Label) → IsBar zone x → ((y : List Label) → IsBar zone y → IsBelow x y → ⊥) → (IsUnder x name → Exists zone name) → IsUnder x name ⊎ IsUnder name x → Exists zone name
    by x bar top made (inl under) = made under
    by x bar top made (inr over) = ⊎_elim
        (λ (same : name ≡ x). made (subst (λ n. IsUnder n name) same (under_itself name)))
        (λ (apart : name ≢ x). absurd (free x bar (over, apart)))
        (same_or_not name x)

pub exists_reached : (zone : Zone) (name : List Label) → Exists zone name → IsReached zone name
exists_reached zone name there = (there.owner, there.live.owner, there.under)

-- the source of synthesis is as free as the name
pub source_free : (zone : Zone) (name encloser : List Label) → IsBelow name encloser → IsUnbarred zone name → IsUnbarred zone (asterisk ∷ encloser)
source_free zone name encloser above free bar is below = ⊎_elim
    (λ same. below.1 same)
    (λ under. free bar is (under_through name encloser bar above.0 under, λ same. above.1 (under_both name encloser above.0 (subst (IsUnder encloser) (sym same) under))))
    (under_step asterisk encloser bar below.0)

module _ (zone : Zone) (is : IsZone zone) (name encloser : List Label) (within : IsUnder name zone.apex) (free : IsUnbarred zone name) (missing : IsReached zone name → ⊥) where
  -- what is above an owner and the name is above the longest name that they share
  pub is_closest : IsUnder name encloser → IsReached zone encloser → ((owner : List Label) → IsOwner zone owner → (other : List Label) → IsUnder name other → IsUnder owner other → IsUnder encloser other) → IsClosestEncloser zone name encloser
  is_closest above reached longest = record {
    there = reached_exists zone encloser (longest reached.0 reached.1 zone.apex within (owner_under zone is reached.0 reached.1)) free_above reached;
    above = below;
    longest = λ another there under. longest there.owner there.live.owner another under.0 there.under;
  }
    where
      below : IsBelow name encloser
      below = (above, λ same. missing (subst (IsReached zone) (sym same) reached))

      free_above : IsUnbarred zone encloser
      free_above bar bars under = free bar bars (under_through name encloser bar above under.0, λ same. below.1 (under_both name encloser above (subst (IsUnder encloser) (sym same) under.0)))
