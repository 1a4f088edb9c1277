-- What a zone answers to a name and a type: the lookup of RFC 1034 (section 4.3.2) with the wildcards of RFC 4592 and
-- the DNAMEs of RFC 6672, as a relation.
use Rattle.std.specs.Prelude.{◌≡◌, ◌≢◌, ℕ, ◌⊎◌, ◌↔◌, List, ◌∷◌}
use Rattle.std.specs.List.{Contains}
use Rattle.std.specs.Ordering.{nat_cmp}
use Rattle.std.specs.Cmp.Lexicographic.{slice_cmp}
use Rattle.std.specs.declared.cmp.Ordering.TheVariants.{Greater}
use Rattle.dname.specs.Name.{Label, IsUnder, asterisk}
use Rattle.dname.specs.declared.types.TheConstants.{CNAME_TYPE, DNAME_TYPE, DS_TYPE, NS_TYPE}
use Rattle.zone_meaning.specs.Zone.{Zone, HasData, HasType, IsBelow, IsCut, Exists}

-- what a lookup comes to: the data of the name and type; the data of a CNAME in their place; a name without the type;
-- no name; the cut where another zone goes on; the owner of a DNAME; or what the RFCs leave open
pub data Looked : Type 0 where
  Answer : List (List ℕ) → Looked
  Alias : List ℕ → Looked
  NoData : Looked
  NxDomain : Looked
  Referral : List Label → Looked
  Redirect : List Label → Looked
  Undefined : Looked

-- ---- on the way down to the name

-- a cut at or above the name is on the way (RFC 1034, section 4.3.2, step 3b), but the parent's side answers for the DS
-- at the cut (RFC 4035, section 3.1.4.1)
pub record MeetsCut (zone : Zone) (name : List Label) (rtype : ℕ) (cut : List Label) : Type 0 where
  pub parted : IsCut zone cut
  pub above : IsUnder name cut
  pub asked : cut ≡ name → rtype ≢ DS_TYPE

-- a DNAME above the name is on the way, and one at the name isn't (RFC 6672, sections 2.3 and 3.2)
pub record MeetsDname (zone : Zone) (name owner : List Label) : Type 0 where
  pub there : HasType zone owner DNAME_TYPE
  pub above : IsBelow name owner

-- a cut or a DNAME that is on the way; one name may be both
abbrev pub Meets : Zone → List Label → ℕ → List Label → Type 0
Meets zone name rtype other = MeetsCut zone name rtype other ⊎ MeetsDname zone name other

-- the lookup goes from the apex down, so what it meets first has nothing above it that it meets
pub record MeetsFirst (zone : Zone) (name : List Label) (rtype : ℕ) (other : List Label) : Type 0 where
  pub met : Meets zone name rtype other
  pub topmost : (another : List Label) → Meets zone name rtype another → IsBelow other another → ⊥

-- the way is free down to the name
abbrev pub MeetsNothing : Zone → List Label → ℕ → Type 0
MeetsNothing zone name rtype = (other : List Label) → Meets zone name rtype other → ⊥

-- ---- at a name that exists

-- the data at the name and type, each member and nothing else; where there is none the CNAME's, and of several, which
-- RFC 2181 (section 10.1) forbids, the least; and where that is missing too, no data (RFC 1034, section 4.3.2, step 3a)
abbrev pub AnswersAt : Zone → List Label → ℕ → Looked → Type 0
AnswersAt zone name rtype (Answer items) =
    HasType zone name rtype
    × ((octets : List ℕ) → Contains items octets ↔ HasData zone name rtype octets)
AnswersAt zone name rtype (Alias octets) =
    (HasType zone name rtype → ⊥)
    × HasData zone name CNAME_TYPE octets
    × ((others : List ℕ) → HasData zone name CNAME_TYPE others → slice_cmp nat_cmp octets others ≢ Greater)
AnswersAt zone name rtype NoData = (HasType zone name rtype → ⊥) × (HasType zone name CNAME_TYPE → ⊥)
AnswersAt zone name rtype NxDomain = ⊥
AnswersAt zone name rtype (Referral cut) = ⊥
AnswersAt zone name rtype (Redirect owner) = ⊥
AnswersAt zone name rtype Undefined = ⊥

-- ---- at a name that doesn't exist

-- the longest name above it that exists (RFC 4592, section 3.3.1)
pub record IsClosestEncloser (zone : Zone) (name encloser : List Label) : Type 0 where
  pub there : Exists zone encloser
  pub above : IsBelow name encloser
  pub longest : (another : List Label) → Exists zone another → IsBelow name another → IsUnder encloser another

-- a source of synthesis answers for the name as for itself, and where there is none, there is no name (RFC 4592, section
-- 3.3); one with NS has no defined answer (section 4.2), nor has one with a DNAME where the name would find no data
-- (section 4.4; RFC 6672, section 3.3)
pub data Synthesizes (zone : Zone) (source : List Label) (rtype : ℕ) : Looked → Type 0 where
  by_no_source : (Exists zone source → ⊥) → Synthesizes zone source rtype NxDomain
  by_its_ns : Exists zone source → HasType zone source NS_TYPE → Synthesizes zone source rtype Undefined
  by_its_dname :
      Exists zone source → HasType zone source DNAME_TYPE → AnswersAt zone source rtype NoData → Synthesizes zone source rtype Undefined
  as_itself :
      (answer : Looked) → Exists zone source → (HasType zone source NS_TYPE → ⊥) → AnswersAt zone source rtype answer
      → (answer ≡ NoData → HasType zone source DNAME_TYPE → ⊥) → Synthesizes zone source rtype answer

-- ---- the whole

-- what is met first decides, a cut before a DNAME at the same name; then the name, if it exists; then the wildcard below
-- the closest encloser; and where nothing above the name exists either, there is no name
pub data Finds (zone : Zone) (name : List Label) (rtype : ℕ) : Looked → Type 0 where
  at_a_cut :
      (cut : List Label) → MeetsFirst zone name rtype cut → IsCut zone cut → Finds zone name rtype (Referral cut)
  at_a_dname :
      (owner : List Label) → MeetsFirst zone name rtype owner → (IsCut zone owner → ⊥) → Finds zone name rtype (Redirect owner)
  at_the_name :
      (answer : Looked) → MeetsNothing zone name rtype → Exists zone name → AnswersAt zone name rtype answer → Finds zone name rtype answer
  by_a_wildcard :
      (answer : Looked) (encloser : List Label) → MeetsNothing zone name rtype → (Exists zone name → ⊥)
      → IsClosestEncloser zone name encloser → Synthesizes zone (asterisk ∷ encloser) rtype answer → Finds zone name rtype answer
  with_no_encloser :
      MeetsNothing zone name rtype → ((other : List Label) → IsUnder name other → Exists zone other → ⊥) → Finds zone name rtype NxDomain

-- the zone answers only for names at or below its apex
pub record LooksUp (zone : Zone) (name : List Label) (rtype : ℕ) (answer : Looked) : Type 0 where
  pub within : IsUnder name zone.apex
  pub found : Finds zone name rtype answer

-- two answers are one, the order and repeats of their data aside
abbrev pub IsSameAnswer : Looked → Looked → Type 0
IsSameAnswer (Answer items) (Answer others) = (octets : List ℕ) → Contains items octets ↔ Contains others octets
IsSameAnswer answer another = answer ≡ another

-- the zone is the one for the question: the name is in it, and is not its apex where DS is asked, which the zone above has
-- (RFC 4035, sections 2.4 and 3.1.4.1)
pub record IsZoneFor (zone : Zone) (name : List Label) (qtype : ℕ) : Type 0 where
  pub above : IsUnder name zone.apex
  pub of_ds : qtype ≡ DS_TYPE → name ≢ zone.apex
