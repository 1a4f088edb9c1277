-- Tests that decide what the definitions say of a zone, and so compute at a zone that is written out.
use Rattle.std.proofs.Common.{◌≡◌, ◌≢◌, ℕ, Bool, true, false, List, [], ◌∷◌, length, refl, sym, ◌∙◌, ap, subst, arith, inl, inr, ⊎_elim}
use Rattle.std.specs.Prelude.{not, ◌&&◌, ◌||◌, ◌==◌}
use Rattle.std.specs.Bool.{Decides}
use Rattle.std.specs.List.{Contains}
use Rattle.std.specs.Cmp.Lexicographic.{bytes_decides}
use Rattle.std.proofs.lemmas.Bool.{false≢true}
use Rattle.std.proofs.lemmas.Bool.Decides.{Decides-eqb, Decides-like, Decides-not, Decides-and, Decides-or, not_from_Decides}
use Rattle.facts.proofs.Lists.{here, there, nothing_in, here_or_there}
use Rattle.dname.specs.Name.{Label, IsUnder}
use Rattle.dname.specs.Tests.{same_octets, same_name, is_under}
use Rattle.dname.specs.declared.types.TheConstants.{DNAME_TYPE, NS_TYPE}
use Rattle.dname.proofs.SameLemmas.{same_name_decides, same_or_not}
use Rattle.dname.proofs.UnderLemmas.{under_decides, under_itself, under_root, under_longer, under_is_longer, under_step, under_both}
use Rattle.zone_meaning.specs.Zone.{Zone, ZoneRecord, HasData, HasType, IsBelow, IsCut, IsBar, IsLive, IsOwner, Exists}

-- ---- lists

abbrev pub any_of : {X : Type 0} → (X → Bool) → List X → Bool
any_of p [] = false
any_of p (x ∷ xs) = p x || any_of p xs

pub any_decides : {X : Type 0} (p : X → Bool) (P : X → Type 0) → ((x : X) → Decides (p x) (P x)) → (xs : List X) → Decides (any_of p xs) ((x : X) × Contains xs x × P x)
any_decides p P each [] = (λ e. cc, λ h. absurd (nothing_in h.0 h.1))
any_decides {X} p P each (x ∷ xs) = Decides-like (p x || any_of p xs)
    (⊎_elim (λ yes. (x, here x xs, yes)) (λ (h : (y : X) × Contains xs y × P y). (h.0, there x xs h.0 h.1, h.2)))
    (λ h. ⊎_elim (λ same. inl (subst P (sym same) h.2)) (λ in'. inr (h.0, in', h.2)) (here_or_there x xs h.0 h.1))
    (Decides-or (p x) (any_of p xs) (each x) (any_decides p P each xs))

abbrev pub all_of : {X : Type 0} → (X → Bool) → List X → Bool
all_of p [] = true
all_of p (x ∷ xs) = p x && all_of p xs

pub all_decides : {X : Type 0} (p : X → Bool) (P : X → Type 0) → ((x : X) → Decides (p x) (P x)) → (xs : List X) → Decides (all_of p xs) ((x : X) → Contains xs x → P x)
all_decides p P each [] = (λ _ y in'. absurd (nothing_in y in'), λ _. refl)
all_decides {X} p P each (x ∷ xs) = Decides-like (p x && all_of p xs)
    (λ h y in'. ⊎_elim (λ same. subst P same h.0) (λ more. h.1 y more) (here_or_there x xs y in'))
    (λ h. (h x (here x xs), λ y in'. h y (there x xs y in')))
    (Decides-and (p x) (all_of p xs) (each x) (all_decides p P each xs))

pub if_decides : {P Q : Type 0} (p q : Bool) → Decides p P → Decides q Q → Decides (not p || q) (P → Q)
if_decides true q d e = (λ t yes. e.0 t, λ h. e.1 (h (d.0 refl)))
if_decides false q d e = (λ t yes. absurd (false≢true (d.1 yes)), λ h. refl)

-- what a test decides doesn't hold where it fails
pub refuted : {P : Type 0} {r : Bool} → Decides r P → r ≡ false → P → ⊥
refuted {P} {r} d test = not_from_Decides r d test

-- ---- names

abbrev pub ancestors : List Label → List (List Label)
ancestors [] = []
ancestors (label ∷ rest) = rest ∷ ancestors rest

pub ancestors_are_below : (name other : List Label) → Contains (ancestors name) other → IsBelow name other
ancestors_are_below [] other in' = absurd (nothing_in other in')
ancestors_are_below (label ∷ rest) other in' = ⊎_elim
    (λ same. subst (IsBelow (label ∷ rest)) same (longer rest rest (under_itself rest)))
    (λ more. longer rest other (ancestors_are_below rest other more).0)
    (here_or_there rest (ancestors rest) other in')
  where
    longer : (rest other : List Label) → IsUnder rest other → IsBelow (label ∷ rest) other
    longer rest other under = (under_longer label rest other under, λ e. omega (arith, ap length e, under_is_longer rest other under))

pub below_is_ancestor : (name other : List Label) → IsBelow name other → Contains (ancestors name) other
below_is_ancestor [] other below = absurd (below.1 (under_both [] other below.0 (under_root other)))
below_is_ancestor (label ∷ rest) other below = ⊎_elim
    (λ same. absurd (below.1 same))
    (λ under. ⊎_elim
    (λ same. subst (Contains (rest ∷ ancestors rest)) same (here rest (ancestors rest)))
    (λ (apart : rest ≢ other). there rest (ancestors rest) other (below_is_ancestor rest other (under, apart)))
    (same_or_not rest other))
    (under_step label rest other below.0)

pub is_among : (name other : List Label) → IsUnder name other → Contains (name ∷ ancestors name) other
is_among name other under = ⊎_elim
    (λ same. subst (Contains (name ∷ ancestors name)) same (here name (ancestors name)))
    (λ (apart : name ≢ other). there name (ancestors name) other (below_is_ancestor name other (under, apart)))
    (same_or_not name other)

abbrev pub is_below : List Label → List Label → Bool
is_below name other = any_of (λ above. same_name above other) (ancestors name)

pub below_decides : (name other : List Label) → Decides (is_below name other) (IsBelow name other)
below_decides name other = Decides-like (is_below name other)
    (λ h. subst (IsBelow name) h.2 (ancestors_are_below name h.0 h.1))
    (λ below. (other, below_is_ancestor name other below, refl))
    (any_decides (λ above. same_name above other) (λ above. above ≡ other) (λ above. same_name_decides above other) (ancestors name))

-- ---- a zone

abbrev pub is_at : List Label → ℕ → ZoneRecord → Bool
is_at owner rtype r = same_name r.owner owner && (r.rtype == rtype)

pub at_decides : (owner : List Label) (rtype : ℕ) (r : ZoneRecord) → Decides (is_at owner rtype r) ((r.owner ≡ owner) × (r.rtype ≡ rtype))
at_decides owner rtype r = Decides-and (same_name r.owner owner) (r.rtype == rtype) (same_name_decides r.owner owner) (Decides-eqb r.rtype rtype)

pub record_at : (r : ZoneRecord) (owner : List Label) (rtype : ℕ) → r.owner ≡ owner → r.rtype ≡ rtype → r ≡ record { owner = owner; rtype = rtype; octets = r.octets }
record_at r owner rtype same same' =
    ap (λ (o : List Label). let x : ZoneRecord = record { owner = o; rtype = r.rtype; octets = r.octets } in x) same
    ∙ ap (λ (t : ℕ). let x : ZoneRecord = record { owner = owner; rtype = t; octets = r.octets } in x) same'

abbrev pub has_type : Zone → List Label → ℕ → Bool
has_type zone owner rtype = any_of (is_at owner rtype) zone.records

pub has_type_decides : (zone : Zone) (owner : List Label) (rtype : ℕ) → Decides (has_type zone owner rtype) (HasType zone owner rtype)
has_type_decides zone owner rtype = Decides-like (has_type zone owner rtype)
    (λ h. (h.0.octets, subst (Contains zone.records) (record_at h.0 owner rtype h.2.0 h.2.1) h.1))
    (λ has. (record { owner = owner; rtype = rtype; octets = has.0 }, has.1, (refl, refl)))
    (any_decides (is_at owner rtype) (λ r. (r.owner ≡ owner) × (r.rtype ≡ rtype)) (at_decides owner rtype) zone.records)

abbrev pub has_data : Zone → List Label → ℕ → List ℕ → Bool
has_data zone owner rtype octets = any_of (λ r. is_at owner rtype r && same_octets r.octets octets) zone.records

pub has_data_decides : (zone : Zone) (owner : List Label) (rtype : ℕ) (octets : List ℕ) → Decides (has_data zone owner rtype octets) (HasData zone owner rtype octets)
has_data_decides zone owner rtype octets = Decides-like (has_data zone owner rtype octets)
    (λ h. subst (Contains zone.records) (record_at h.0 owner rtype h.2.0.0 h.2.0.1 ∙ ap (λ (o : List ℕ). let x : ZoneRecord = record { owner = owner; rtype = rtype; octets = o } in x) h.2.1) h.1)
    (λ has. (record { owner = owner; rtype = rtype; octets = octets }, has, ((refl, refl), refl)))
    (any_decides (λ r. is_at owner rtype r && same_octets r.octets octets) (λ r. ((r.owner ≡ owner) × (r.rtype ≡ rtype)) × (r.octets ≡ octets))
    (λ r. Decides-and (is_at owner rtype r) (same_octets r.octets octets) (at_decides owner rtype r) (bytes_decides r.octets octets))
    zone.records)

abbrev pub is_owner : Zone → List Label → Bool
is_owner zone owner = any_of (λ r. same_name r.owner owner) zone.records

pub owner_decides : (zone : Zone) (owner : List Label) → Decides (is_owner zone owner) (IsOwner zone owner)
owner_decides zone owner = Decides-like (is_owner zone owner)
    (λ h. (h.0.rtype, (h.0.octets, subst (Contains zone.records) (record_at h.0 owner h.0.rtype h.2 refl) h.1)))
    (λ has. (record { owner = owner; rtype = has.0; octets = has.1.0 }, has.1.1, refl))
    (any_decides (λ r. same_name r.owner owner) (λ r. r.owner ≡ owner) (λ r. same_name_decides r.owner owner) zone.records)

abbrev pub is_cut : Zone → List Label → Bool
is_cut zone name = not (same_name name zone.apex) && has_type zone name NS_TYPE

pub cut_decides : (zone : Zone) (name : List Label) → Decides (is_cut zone name) (IsCut zone name)
cut_decides zone name = Decides-and (not (same_name name zone.apex)) (has_type zone name NS_TYPE)
    (Decides-not (same_name name zone.apex) (same_name_decides name zone.apex)) (has_type_decides zone name NS_TYPE)

abbrev pub is_bar : Zone → List Label → Bool
is_bar zone name = is_cut zone name || has_type zone name DNAME_TYPE

pub bar_decides : (zone : Zone) (name : List Label) → Decides (is_bar zone name) (IsBar zone name)
bar_decides zone name = Decides-or (is_cut zone name) (has_type zone name DNAME_TYPE) (cut_decides zone name) (has_type_decides zone name DNAME_TYPE)

abbrev pub is_live : Zone → List Label → Bool
is_live zone name = is_owner zone name && all_of (λ bar. not (is_bar zone bar)) (ancestors name)

pub live_decides : (zone : Zone) (name : List Label) → Decides (is_live zone name) (IsLive zone name)
live_decides zone name = Decides-like (is_live zone name)
    (λ h. record { owner = h.0; unbarred = λ bar is below. h.1 bar (below_is_ancestor name bar below) is })
    (λ live. (live.owner, λ bar in' is. live.unbarred bar is (ancestors_are_below name bar in')))
    (Decides-and (is_owner zone name) (all_of (λ bar. not (is_bar zone bar)) (ancestors name)) (owner_decides zone name)
    (all_decides (λ bar. not (is_bar zone bar)) (λ bar. IsBar zone bar → ⊥) (λ bar. Decides-not (is_bar zone bar) (bar_decides zone bar)) (ancestors name)))

abbrev pub does_exist : Zone → List Label → Bool
does_exist zone name = is_under name zone.apex && any_of (λ r. is_live zone r.owner && is_under r.owner name) zone.records

pub exists_decides : (zone : Zone) (name : List Label) → Decides (does_exist zone name) (Exists zone name)
exists_decides zone name = Decides-like (does_exist zone name)
    (λ h. record { within = h.0; owner = h.1.0.owner; live = h.1.2.0; under = h.1.2.1 })
    (λ exists. let live = exists.live in (exists.within, (record { owner = exists.owner; rtype = live.owner.0; octets = live.owner.1.0 }, live.owner.1.1, (exists.live, exists.under))))
    (Decides-and (is_under name zone.apex) (any_of (λ r. is_live zone r.owner && is_under r.owner name) zone.records) (under_decides name zone.apex)
    (any_decides (λ r. is_live zone r.owner && is_under r.owner name) (λ r. IsLive zone r.owner × IsUnder r.owner name)
    (λ r. Decides-and (is_live zone r.owner) (is_under r.owner name) (live_decides zone r.owner) (under_decides r.owner name))
    zone.records))
