-- Bars, names that exist, and what is on the way to a name.
use Rattle.std.proofs.Common.{◌≡◌, ◌≢◌, ℕ, List, [], ◌∷◌, refl, sym, subst, arith, inl, inr, ⊎_elim}
use Rattle.dname.specs.Name.{Label, IsUnder, asterisk}
use Rattle.dname.specs.declared.types.TheConstants.{DNAME_TYPE, DS_TYPE, NS_TYPE}
use Rattle.dname.proofs.SameLemmas.{same_or_not}
use Rattle.dname.proofs.UnderLemmas.{under_is_longer, under_itself, under_through, under_both}
use Rattle.zone_meaning.specs.Zone.{Zone, IsBelow, IsCut, IsBar, IsLive, IsOwner, Exists}
use Rattle.zone_meaning.specs.Lookup.{MeetsCut, MeetsDname, MeetsNothing}
use Rattle.zone_meaning.proofs.ZoneTests.{is_bar, bar_decides}
use Rattle.zone_meaning.proofs.AncestorLemmas.{topmost_or_none}

pub bar_owner : (zone : Zone) (bar : List Label) → IsBar zone bar → IsOwner zone bar
bar_owner zone bar is = ⊎_elim (λ (cut : IsCut zone bar). (NS_TYPE, cut.1)) (λ has. (DNAME_TYPE, has)) is

-- the topmost bar at or above a bar is live
pub live_bar : (zone : Zone) (bar : List Label) → IsBar zone bar → (top : List Label) × IsUnder bar top × IsBar zone top × IsLive zone top
live_bar zone bar is = ⊎_elim
    (λ (h : (x : List Label) × IsUnder bar x × IsBar zone x × ((y : List Label) → IsBar zone y → IsBelow x y → ⊥)).
    (h.0, h.1, h.2, record { owner = bar_owner zone h.0 h.2; unbarred = h.3 }))
    (λ none. absurd (none bar (under_itself bar) is))
    (topmost_or_none (IsBar zone) (is_bar zone) (bar_decides zone) bar)

-- where no bar is above the name, and at a cut the DS alone is asked, nothing is on the way
pub unbarred_meets_nothing : (zone : Zone) (name : List Label) (rtype : ℕ) → ((bar : List Label) → IsBar zone bar → IsBelow name bar → ⊥) → (IsCut zone name → rtype ≡ DS_TYPE) → MeetsNothing zone name rtype
unbarred_meets_nothing zone name rtype free parent other met =
    ⊎_elim no_cut (λ (dname : MeetsDname zone name other). free other (inr dname.there) dname.above) met
  where
    no_cut : MeetsCut zone name rtype other → ⊥
    no_cut cut = ⊎_elim
        (λ same. cut.asked same (parent (subst (IsCut zone) same cut.parted)))
        (λ (apart : other ≢ name). free other (inl cut.parted) (cut.above, λ e. apart (sym e)))
        (same_or_not other name)

-- above a name that exists there is no bar, since its live owner is at or below it
pub exists_unbarred : (zone : Zone) (name : List Label) → Exists zone name → (bar : List Label) → IsBar zone bar → IsBelow name bar → ⊥
exists_unbarred zone name there bar is below = there.live.unbarred bar is
    (under_through there.owner name bar there.under below.0, λ e. below.1 (under_both name bar below.0 (subst (λ n. IsUnder n name) e there.under)))

pub exists_above : (zone : Zone) (name other : List Label) → Exists zone other → IsUnder other name → IsUnder name zone.apex → Exists zone name
exists_above zone name other there under within = record { within = within; owner = there.owner; live = there.live; under = under_through there.owner other name there.under under }

-- a source of synthesis below a name of the zone is in the zone, and isn't its apex
pub source_within : (zone : Zone) (encloser : List Label) → IsUnder encloser zone.apex → IsUnder (asterisk ∷ encloser) zone.apex
source_within zone encloser within = under_through (asterisk ∷ encloser) encloser zone.apex (asterisk ∷ [], refl) within

pub longer_is_not_above : (label : Label) (name other : List Label) → IsUnder name other → label ∷ name ≢ other
longer_is_not_above label name other under e = omega (arith, under_is_longer name (label ∷ name) (subst (IsUnder name) (sym e) under))
