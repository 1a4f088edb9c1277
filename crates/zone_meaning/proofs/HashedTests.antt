-- Tests by which an NSEC3 is true of a zone, and that decide what it says of a name.
use Rattle.std.proofs.Common.{◌≡◌, ℕ, Bool, true, false, List, ◌∷◌, refl, ◌⊎◌, ⊎_elim}
use Rattle.std.specs.Prelude.{not, ◌&&◌, ◌||◌}
use Rattle.std.specs.Bool.{Decides}
use Rattle.std.specs.List.{Contains}
use Rattle.std.specs.Cmp.Lexicographic.{bytes_decides, nat_list_cmp_total}
use Rattle.std.specs.FinMap.{slice_cmp-IsAntisymmetric, nat_cmp-IsAntisymmetric}
use Rattle.std.proofs.lemmas.Bool.Decides.{Decides-like, Decides-not, Decides-and, Decides-or}
use Rattle.dname.specs.Name.{Label, asterisk}
use Rattle.dname.specs.Arc.{IsInside}
use Rattle.dname.specs.declared.types.TheConstants.{DNAME_TYPE}
use Rattle.dname.proofs.SameLemmas.{same_name_decides}
use Rattle.dname.proofs.UnderLemmas.{under_decides}
use Rattle.dname.specs.Tests.{same_octets, same_name, is_under}
use Rattle.zone_meaning.specs.Zone.{Zone, ZoneRecord, IsOwner, Exists}
use Rattle.zone_meaning.specs.Hashed.{Nsec3Part, hash_cmp, IsConsistentNsec3, IsClashFree}
use Rattle.zone_meaning.specs.HashedDenial.{IsHashedMatchWithoutType, IsNoHashedName, IsNextCloserMissing, IsOpenEncloser, IsHashedNameError, IsHashedWildcardWithoutType}
use Rattle.zone_meaning.proofs.ZoneTests.{all_of, all_decides, if_decides, ancestors, below_is_ancestor, is_among, does_exist, exists_decides}
use Rattle.zone_meaning.proofs.ConsistentTests.{is_within, within_decides, do_types_agree, types_agree}
use Rattle.zone_meaning.proofs.DenialTests.{shows_no_cut, no_cut_decides, lacks_bit, lacks_decides, denies_type, denies_decides, denies_synthesis, synthesis_decides}

-- ---- arcs of hashes

abbrev pub is_between : List ℕ → List ℕ → List ℕ → Bool
is_between = is_within hash_cmp same_octets

pub between_decides : (a b x : List ℕ) → Decides (is_between a b x) (IsInside hash_cmp a b x)
between_decides = within_decides hash_cmp nat_list_cmp_total (slice_cmp-IsAntisymmetric nat_cmp-IsAntisymmetric) same_octets bytes_decides

-- ---- all names that exist

abbrev pub all_existing : Zone → (List Label → Bool) → Bool
all_existing zone p = all_of (λ r. all_of (λ y. p y || not (does_exist zone y)) (r.owner ∷ ancestors r.owner)) zone.records

pub each_existing : (zone : Zone) (p : List Label → Bool) (P : List Label → Type 0) → ((y : List Label) → Decides (p y) (P y)) → all_existing zone p ≡ true → (y : List Label) → Exists zone y → P y
each_existing zone p P decides test y there = by there.live.owner
  where
    each : (r : ZoneRecord) → Decides (all_of (λ y. p y || not (does_exist zone y)) (r.owner ∷ ancestors r.owner)) ((y : List Label) → Contains (r.owner ∷ ancestors r.owner) y → P y ⊎ (Exists zone y → ⊥))
    each r = all_decides (λ y. p y || not (does_exist zone y)) (λ y. P y ⊎ (Exists zone y → ⊥))
        (λ y. Decides-or (p y) (not (does_exist zone y)) (decides y) (Decides-not (does_exist zone y) (exists_decides zone y)))
        (r.owner ∷ ancestors r.owner)

    by : IsOwner zone there.owner → P y
    by has = ⊎_elim (λ yes. yes) (λ (missing : Exists zone y → ⊥). absurd (missing there))
        ((all_decides (λ r. all_of (λ y. p y || not (does_exist zone y)) (r.owner ∷ ancestors r.owner)) (λ r. (y : List Label) → Contains (r.owner ∷ ancestors r.owner) y → P y ⊎ (Exists zone y → ⊥)) each zone.records).0 test
        (record { owner = there.owner; rtype = has.0; octets = has.1.0 }) has.1.1 y (is_among there.owner y there.under))

-- ---- an NSEC3 that is true of a zone

abbrev pub is_empty_arc : Zone → Nsec3Part → Bool
is_empty_arc zone part = all_existing zone (λ y. not (is_between part.owner part.next (part.hash y)))

pub nsec3_by_tests : (zone : Zone) (part : Nsec3Part) (named : List Label) → zone.apex ≡ part.zone → does_exist zone named ≡ true → part.hash named ≡ part.owner → do_types_agree zone named part.types ≡ true → (part.opt_out || is_empty_arc zone part) ≡ true → IsConsistentNsec3 zone part
nsec3_by_tests zone part named apex there hashed types between = record {
  apex = apex;
  named = named;
  there = (exists_decides zone named).0 there;
  hashed = hashed;
  types_agree = types_agree zone named part.types types;
  none_between = λ clear name there'. each_existing zone (λ y. not (is_between part.owner part.next (part.hash y))) (λ y. IsInside hash_cmp part.owner part.next (part.hash y) → ⊥)
      (λ y. Decides-not (is_between part.owner part.next (part.hash y)) (between_decides part.owner part.next (part.hash y))) (second part.opt_out between clear) name there';
}
  where
    second : (first : Bool) → (first || is_empty_arc zone part) ≡ true → first ≡ false → is_empty_arc zone part ≡ true
    second false test clear = test
    second true test clear = absurd (differs clear)
      where
        differs : true ≡ false → ⊥
        differs e = cc

abbrev pub is_apart : (List Label → List ℕ) → Zone → List Label → Bool
is_apart hash zone x = all_existing zone (λ y. not (same_octets (hash y) (hash x)) || same_name y x)

apart_from : (hash : List Label → List ℕ) (zone : Zone) (x : List Label) → is_apart hash zone x ≡ true → (y : List Label) → Exists zone y → hash y ≡ hash x → y ≡ x
apart_from hash zone x test = each_existing zone (λ y. not (same_octets (hash y) (hash x)) || same_name y x) (λ y. hash y ≡ hash x → y ≡ x)
    (λ y. if_decides (same_octets (hash y) (hash x)) (same_name y x) (bytes_decides (hash y) (hash x)) (same_name_decides y x)) test

abbrev pub all_apart : (List Label → List ℕ) → Zone → List (List Label) → Bool
all_apart hash zone names = all_of (λ x. is_apart hash zone x) names

apart_each : (hash : List Label → List ℕ) (zone : Zone) (names : List (List Label)) → all_apart hash zone names ≡ true → (x : List Label) → Contains names x → is_apart hash zone x ≡ true
apart_each hash zone names test = (all_decides (λ x. is_apart hash zone x) (λ x. is_apart hash zone x ≡ true) (λ x. (λ e. e, λ e. e)) names).0 test

abbrev pub all_wildcards_apart : (List Label → List ℕ) → Zone → List (List Label) → Bool
all_wildcards_apart hash zone names = all_of (λ x. is_apart hash zone (asterisk ∷ x)) names

wildcards_each : (hash : List Label → List ℕ) (zone : Zone) (names : List (List Label)) → all_wildcards_apart hash zone names ≡ true → (x : List Label) → Contains names x → is_apart hash zone (asterisk ∷ x) ≡ true
wildcards_each hash zone names test = (all_decides (λ x. is_apart hash zone (asterisk ∷ x)) (λ x. is_apart hash zone (asterisk ∷ x) ≡ true) (λ x. (λ e. e, λ e. e)) names).0 test

-- the names above the apex may be apart too
pub clash_free_by_tests : (zone : Zone) (hash : List Label → List ℕ) (name : List Label) → all_apart hash zone (name ∷ ancestors name) ≡ true → all_wildcards_apart hash zone (ancestors name) ≡ true → IsClashFree zone hash name
clash_free_by_tests zone hash name names wildcards = record {
  of_names = λ above other under _. apart_from hash zone above (apart_each hash zone (name ∷ ancestors name) names above (is_among name above under)) other;
  of_sources = λ above other below _. apart_from hash zone (asterisk ∷ above) (wildcards_each hash zone (ancestors name) wildcards above (below_is_ancestor name above below)) other;
}

-- ---- what an NSEC3 says of a name

abbrev pub is_no_hash : Nsec3Part → List Label → Bool
is_no_hash nsec3 name = is_between nsec3.owner nsec3.next (nsec3.hash name) && not nsec3.opt_out

pub no_hash_decides : (nsec3 : Nsec3Part) (name : List Label) → Decides (is_no_hash nsec3 name) (IsNoHashedName nsec3 name)
no_hash_decides nsec3 name = Decides-like (is_no_hash nsec3 name)
    (λ h. record { inside = h.0; no_opt_out = h.1 })
    (λ is. (is.inside, is.no_opt_out))
    (Decides-and (is_between nsec3.owner nsec3.next (nsec3.hash name)) (not nsec3.opt_out) (between_decides nsec3.owner nsec3.next (nsec3.hash name)) (clear_decides nsec3.opt_out))
  where
    clear_decides : (flag : Bool) → Decides (not flag) (flag ≡ false)
    clear_decides true = (λ e. cc, λ e. cc)
    clear_decides false = (λ _. refl, λ _. refl)

abbrev pub is_open : Nsec3Part → List Label → Bool
is_open nsec3 encloser = same_octets (nsec3.hash encloser) nsec3.owner && (lacks_bit nsec3.types DNAME_TYPE && shows_no_cut nsec3.types encloser nsec3.zone)

pub open_decides : (nsec3 : Nsec3Part) (encloser : List Label) → Decides (is_open nsec3 encloser) (IsOpenEncloser nsec3 encloser)
open_decides nsec3 encloser = Decides-like (is_open nsec3 encloser)
    (λ h. record { matches = h.0; no_dname = h.1.0; no_cut = h.1.1 })
    (λ is. (is.matches, (is.no_dname, is.no_cut)))
    (Decides-and (same_octets (nsec3.hash encloser) nsec3.owner) (lacks_bit nsec3.types DNAME_TYPE && shows_no_cut nsec3.types encloser nsec3.zone) (bytes_decides (nsec3.hash encloser) nsec3.owner)
    (Decides-and (lacks_bit nsec3.types DNAME_TYPE) (shows_no_cut nsec3.types encloser nsec3.zone) (lacks_decides nsec3.types DNAME_TYPE) (no_cut_decides nsec3.types encloser nsec3.zone)))

-- ---- proofs by tests

pub match_by_hash : (nsec3 : Nsec3Part) (name : List Label) (rtype : ℕ) → is_under name nsec3.zone ≡ true → nsec3.hash name ≡ nsec3.owner → denies_type nsec3.types name nsec3.zone rtype ≡ true → IsHashedMatchWithoutType nsec3 name rtype
match_by_hash nsec3 name rtype within matches denies = record {
  within = (under_decides name nsec3.zone).0 within;
  matches = matches;
  denies = (denies_decides nsec3.types name nsec3.zone rtype).0 denies;
}

pub missing_by_hash : (nsec3 : Nsec3Part) (name ancestor : List Label) (label : Label) → is_under ancestor nsec3.zone ≡ true → is_under name (label ∷ ancestor) ≡ true → is_no_hash nsec3 (label ∷ ancestor) ≡ true → IsNextCloserMissing nsec3 name ancestor
missing_by_hash nsec3 name ancestor label within above none = record {
  within = (under_decides ancestor nsec3.zone).0 within;
  label = label;
  above = (under_decides name (label ∷ ancestor)).0 above;
  no_name = (no_hash_decides nsec3 (label ∷ ancestor)).0 none;
}

pub error_by_hashes : (closer matching source : Nsec3Part) (name encloser : List Label) → IsNextCloserMissing closer name encloser → is_open matching encloser ≡ true → is_no_hash source (asterisk ∷ encloser) ≡ true → IsHashedNameError closer matching source name encloser
error_by_hashes closer matching source name encloser missing nearest none = record {
  missing = missing;
  nearest = (open_decides matching encloser).0 nearest;
  no_wildcard = (no_hash_decides source (asterisk ∷ encloser)).0 none;
}

pub without_type_by_hashes : (closer source : Nsec3Part) (name encloser : List Label) (rtype : ℕ) → IsNextCloserMissing closer name encloser → source.hash (asterisk ∷ encloser) ≡ source.owner → denies_synthesis source.types rtype ≡ true → IsHashedWildcardWithoutType closer source name encloser rtype
without_type_by_hashes closer source name encloser rtype missing matches denies = record {
  missing = missing;
  matches = matches;
  denies = (synthesis_decides source.types rtype).0 denies;
}
