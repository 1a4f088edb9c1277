-- Tests that decide what NSECs say of a name.
use Rattle.std.proofs.Common.{◌≡◌, ◌≢◌, ℕ, Bool, true, List, ◌∷◌, ◌⊎◌}
use Rattle.std.specs.Prelude.{not, ◌&&◌, ◌||◌, ◌==◌}
use Rattle.std.specs.Bool.{Decides}
use Rattle.std.specs.List.{Contains}
use Rattle.std.proofs.lemmas.Bool.Decides.{Decides-eqb, Decides-like, Decides-not, Decides-and, Decides-or}
use Rattle.dname.specs.Name.{Label, IsUnder, asterisk}
use Rattle.dname.specs.declared.types.TheConstants.{CNAME_TYPE, DNAME_TYPE, DS_TYPE, NS_TYPE}
use Rattle.dname.proofs.SameLemmas.{same_name_decides}
use Rattle.dname.proofs.UnderLemmas.{under_decides}
use Rattle.dname.specs.Tests.{same_name, is_under}
use Rattle.zone_meaning.specs.Zone.{IsProofType}
use Rattle.zone_meaning.specs.Consistent.{NsecPart, SetPart}
use Rattle.zone_meaning.specs.Denial.{DeniesType, DeniesSynthesis, IsMatchWithoutType, SpeaksBelow, IsNoName, IsEmptyName, IsEncloserBy, IsMissingName, IsNameError, IsWildcardWithoutType, IsEmptyWildcard, IsSetAtSource, IsWildcardAnswer}
use Rattle.zone_meaning.proofs.ZoneTests.{all_of, all_decides, if_decides, ancestors, is_among}
use Rattle.zone_meaning.proofs.ConsistentTests.{is_inside, inside_decides, has_bit, bit_decides, is_proof_type, proof_type_decides}

-- ---- type bit maps

abbrev pub lacks_bit : List ℕ → ℕ → Bool
lacks_bit types rtype = not (has_bit types rtype)

pub lacks_decides : (types : List ℕ) (rtype : ℕ) → Decides (lacks_bit types rtype) (Contains types rtype → ⊥)
lacks_decides types rtype = Decides-not (has_bit types rtype) (bit_decides types rtype)

ordinary_decides : (rtype : ℕ) → Decides (not (is_proof_type rtype)) (IsProofType rtype → ⊥)
ordinary_decides rtype = Decides-not (is_proof_type rtype) (proof_type_decides rtype)

abbrev pub is_on_side : List ℕ → List Label → List Label → ℕ → Bool
is_on_side types name apex rtype = not (has_bit types NS_TYPE) || (not (not (same_name name apex)) || (rtype == DS_TYPE))

abbrev pub denies_type : List ℕ → List Label → List Label → ℕ → Bool
denies_type types name apex rtype = lacks_bit types rtype && (lacks_bit types CNAME_TYPE && (is_on_side types name apex rtype && not (is_proof_type rtype)))

side_decides : (types : List ℕ) (name apex : List Label) (rtype : ℕ) → Decides (is_on_side types name apex rtype) (Contains types NS_TYPE → name ≢ apex → rtype ≡ DS_TYPE)
side_decides types name apex rtype = if_decides (has_bit types NS_TYPE) (not (not (same_name name apex)) || (rtype == DS_TYPE)) (bit_decides types NS_TYPE)
    (if_decides (not (same_name name apex)) (rtype == DS_TYPE) (Decides-not (same_name name apex) (same_name_decides name apex)) (Decides-eqb rtype DS_TYPE))

pub denies_decides : (types : List ℕ) (name apex : List Label) (rtype : ℕ) → Decides (denies_type types name apex rtype) (DeniesType types name apex rtype)
denies_decides types name apex rtype = Decides-like (denies_type types name apex rtype)
    (λ h. record { no_type = h.0; no_cname = h.1.0; side = h.1.1.0; ordinary = h.1.1.1 })
    (λ is. (is.no_type, (is.no_cname, (is.side, is.ordinary))))
    (Decides-and (lacks_bit types rtype) (lacks_bit types CNAME_TYPE && (is_on_side types name apex rtype && not (is_proof_type rtype))) (lacks_decides types rtype)
    (Decides-and (lacks_bit types CNAME_TYPE) (is_on_side types name apex rtype && not (is_proof_type rtype)) (lacks_decides types CNAME_TYPE)
    (Decides-and (is_on_side types name apex rtype) (not (is_proof_type rtype)) (side_decides types name apex rtype) (ordinary_decides rtype))))

abbrev pub denies_synthesis : List ℕ → ℕ → Bool
denies_synthesis types rtype = lacks_bit types rtype && (lacks_bit types CNAME_TYPE && (lacks_bit types NS_TYPE && (lacks_bit types DNAME_TYPE && not (is_proof_type rtype))))

pub synthesis_decides : (types : List ℕ) (rtype : ℕ) → Decides (denies_synthesis types rtype) (DeniesSynthesis types rtype)
synthesis_decides types rtype = Decides-like (denies_synthesis types rtype)
    (λ h. record { no_type = h.0; no_cname = h.1.0; no_ns = h.1.1.0; no_dname = h.1.1.1.0; ordinary = h.1.1.1.1 })
    (λ is. (is.no_type, (is.no_cname, (is.no_ns, (is.no_dname, is.ordinary)))))
    (Decides-and (lacks_bit types rtype) (lacks_bit types CNAME_TYPE && (lacks_bit types NS_TYPE && (lacks_bit types DNAME_TYPE && not (is_proof_type rtype)))) (lacks_decides types rtype)
    (Decides-and (lacks_bit types CNAME_TYPE) (lacks_bit types NS_TYPE && (lacks_bit types DNAME_TYPE && not (is_proof_type rtype))) (lacks_decides types CNAME_TYPE)
    (Decides-and (lacks_bit types NS_TYPE) (lacks_bit types DNAME_TYPE && not (is_proof_type rtype)) (lacks_decides types NS_TYPE)
    (Decides-and (lacks_bit types DNAME_TYPE) (not (is_proof_type rtype)) (lacks_decides types DNAME_TYPE) (ordinary_decides rtype)))))

-- the type bit map of a name shows no cut there
abbrev pub shows_no_cut : List ℕ → List Label → List Label → Bool
shows_no_cut types name apex = not (has_bit types NS_TYPE) || same_name name apex

pub no_cut_decides : (types : List ℕ) (name apex : List Label) → Decides (shows_no_cut types name apex) (Contains types NS_TYPE → name ≡ apex)
no_cut_decides types name apex = if_decides (has_bit types NS_TYPE) (same_name name apex) (bit_decides types NS_TYPE) (same_name_decides name apex)

-- ---- names

abbrev pub is_no_name : NsecPart → List Label → Bool
is_no_name nsec name = is_inside nsec.owner nsec.next name && not (is_under nsec.next name)

pub no_name_decides : (nsec : NsecPart) (name : List Label) → Decides (is_no_name nsec name) (IsNoName nsec name)
no_name_decides nsec name = Decides-like (is_no_name nsec name)
    (λ h. record { inside = h.0; next_elsewhere = h.1 })
    (λ is. (is.inside, is.next_elsewhere))
    (Decides-and (is_inside nsec.owner nsec.next name) (not (is_under nsec.next name)) (inside_decides nsec.owner nsec.next name) (Decides-not (is_under nsec.next name) (under_decides nsec.next name)))

abbrev pub is_empty_name : NsecPart → List Label → Bool
is_empty_name nsec name = is_inside nsec.owner nsec.next name && is_under nsec.next name

pub empty_name_decides : (nsec : NsecPart) (name : List Label) → Decides (is_empty_name nsec name) (IsEmptyName nsec name)
empty_name_decides nsec name = Decides-like (is_empty_name nsec name)
    (λ h. record { inside = h.0; next_below = h.1 })
    (λ is. (is.inside, is.next_below))
    (Decides-and (is_inside nsec.owner nsec.next name) (is_under nsec.next name) (inside_decides nsec.owner nsec.next name) (under_decides nsec.next name))

abbrev pub speaks_below : NsecPart → List Label → Bool
speaks_below nsec name =
    (not (is_under name nsec.owner) || lacks_bit nsec.types DNAME_TYPE) && (not (is_under name nsec.owner) || shows_no_cut nsec.types nsec.owner nsec.zone)

pub speaks_decides : (nsec : NsecPart) (name : List Label) → Decides (speaks_below nsec name) (SpeaksBelow nsec name)
speaks_decides nsec name = Decides-like (speaks_below nsec name)
    (λ h. record { no_dname = h.0; no_cut = h.1 })
    (λ is. (is.no_dname, is.no_cut))
    (Decides-and (not (is_under name nsec.owner) || lacks_bit nsec.types DNAME_TYPE) (not (is_under name nsec.owner) || shows_no_cut nsec.types nsec.owner nsec.zone)
    (if_decides (is_under name nsec.owner) (lacks_bit nsec.types DNAME_TYPE) (under_decides name nsec.owner) (lacks_decides nsec.types DNAME_TYPE))
    (if_decides (is_under name nsec.owner) (shows_no_cut nsec.types nsec.owner nsec.zone) (under_decides name nsec.owner) (no_cut_decides nsec.types nsec.owner nsec.zone)))

abbrev pub is_above_end : NsecPart → List Label → Bool
is_above_end nsec other = is_under nsec.owner other || is_under nsec.next other

above_end_decides : (nsec : NsecPart) (other : List Label) → Decides (is_above_end nsec other) (IsUnder nsec.owner other ⊎ IsUnder nsec.next other)
above_end_decides nsec other = Decides-or (is_under nsec.owner other) (is_under nsec.next other) (under_decides nsec.owner other) (under_decides nsec.next other)

abbrev pub is_encloser : NsecPart → List Label → List Label → Bool
is_encloser nsec name encloser = is_under name encloser && (is_above_end nsec encloser && all_of (λ a. not (is_under name a) || (not (is_above_end nsec a) || is_under encloser a)) (name ∷ ancestors name))

pub encloser_decides : (nsec : NsecPart) (name encloser : List Label) → Decides (is_encloser nsec name encloser) (IsEncloserBy nsec name encloser)
encloser_decides nsec name encloser = Decides-like (is_encloser nsec name encloser)
    (λ h. record { above = h.0; shared = h.1.0; longest = λ another under ends. h.1.1 another (is_among name another under) under ends })
    (λ is. (is.above, (is.shared, λ another in'. is.longest another)))
    (Decides-and (is_under name encloser) (is_above_end nsec encloser && all_of (λ a. not (is_under name a) || (not (is_above_end nsec a) || is_under encloser a)) (name ∷ ancestors name)) (under_decides name encloser)
    (Decides-and (is_above_end nsec encloser) (all_of (λ a. not (is_under name a) || (not (is_above_end nsec a) || is_under encloser a)) (name ∷ ancestors name)) (above_end_decides nsec encloser)
    (all_decides (λ a. not (is_under name a) || (not (is_above_end nsec a) || is_under encloser a)) (λ a. IsUnder name a → IsUnder nsec.owner a ⊎ IsUnder nsec.next a → IsUnder encloser a)
    (λ a. if_decides (is_under name a) (not (is_above_end nsec a) || is_under encloser a) (under_decides name a) (if_decides (is_above_end nsec a) (is_under encloser a) (above_end_decides nsec a) (under_decides encloser a)))
    (name ∷ ancestors name))))

abbrev pub is_missing : NsecPart → List Label → List Label → Bool
is_missing nsec name encloser = is_under name nsec.zone && (is_no_name nsec name && (speaks_below nsec name && is_encloser nsec name encloser))

pub missing_decides : (nsec : NsecPart) (name encloser : List Label) → Decides (is_missing nsec name encloser) (IsMissingName nsec name encloser)
missing_decides nsec name encloser = Decides-like (is_missing nsec name encloser)
    (λ h. record { within = h.0; no_name = h.1.0; speaks = h.1.1.0; nearest = h.1.1.1 })
    (λ is. (is.within, (is.no_name, (is.speaks, is.nearest))))
    (Decides-and (is_under name nsec.zone) (is_no_name nsec name && (speaks_below nsec name && is_encloser nsec name encloser)) (under_decides name nsec.zone)
    (Decides-and (is_no_name nsec name) (speaks_below nsec name && is_encloser nsec name encloser) (no_name_decides nsec name)
    (Decides-and (speaks_below nsec name) (is_encloser nsec name encloser) (speaks_decides nsec name) (encloser_decides nsec name encloser))))

-- ---- proofs by tests

pub match_by_test : (nsec : NsecPart) (name : List Label) (rtype : ℕ) → nsec.owner ≡ name → denies_type nsec.types name nsec.zone rtype ≡ true → IsMatchWithoutType nsec name rtype
match_by_test nsec name rtype matches denies = record { matches = matches; denies = (denies_decides nsec.types name nsec.zone rtype).0 denies }

pub error_by_tests : (nsec source : NsecPart) (name encloser : List Label) → is_missing nsec name encloser ≡ true → is_no_name source (asterisk ∷ encloser) ≡ true → IsNameError nsec source name encloser
error_by_tests nsec source name encloser missing none = record { missing = (missing_decides nsec name encloser).0 missing; no_wildcard = (no_name_decides source (asterisk ∷ encloser)).0 none }

pub without_type_by_tests : (nsec source : NsecPart) (name encloser : List Label) (rtype : ℕ) → is_missing nsec name encloser ≡ true → source.owner ≡ asterisk ∷ encloser → denies_synthesis source.types rtype ≡ true → IsWildcardWithoutType nsec source name encloser rtype
without_type_by_tests nsec source name encloser rtype missing matches denies = record { missing = (missing_decides nsec name encloser).0 missing; matches = matches; denies = (synthesis_decides source.types rtype).0 denies }

pub empty_by_tests : (nsec source : NsecPart) (name encloser : List Label) → is_missing nsec name encloser ≡ true → is_empty_name source (asterisk ∷ encloser) ≡ true → IsEmptyWildcard nsec source name encloser
empty_by_tests nsec source name encloser missing empty = record { missing = (missing_decides nsec name encloser).0 missing; empty = (empty_name_decides source (asterisk ∷ encloser)).0 empty }

pub answer_by_tests : (nsec : NsecPart) (set : SetPart) (name encloser : List Label) (rtype : ℕ) → is_missing nsec name encloser ≡ true → IsSetAtSource set encloser rtype → IsWildcardAnswer nsec set name encloser rtype
answer_by_tests nsec set name encloser rtype missing answers = record { missing = (missing_decides nsec name encloser).0 missing; answers = answers }
