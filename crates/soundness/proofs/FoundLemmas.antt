-- What is known of a record that is found in a held state, and that two with one arc are the same.
use Rattle.std.proofs.Common.{◌≡◌, ℕ, Bool, true, false, List, [], ◌∷◌, Option, None, Some, refl, sym, ◌∙◌, subst, ap}
use Rattle.std.specs.Prelude.{◌&&◌, ◌==◌, nat_lt, if◌then◌else◌}
use Rattle.std.specs.List.{Contains}
use Rattle.std.specs.Option.{option_or}
use Rattle.std.specs.Ordering.{nat_cmp}
use Rattle.std.specs.Cmp.Lexicographic.{slice_cmp}
use Rattle.std.proofs.lemmas.Bool.{and_parts}
use Rattle.std.proofs.lemmas.Bool.Decides.{Decides-eqb}
use Rattle.std.proofs.lemmas.Option.{none-some, same_Some}
use Rattle.dname.specs.Name.{Label, canonical_cmp}
use Rattle.dname.specs.Tests.{same_name}
use Rattle.dname.specs.Arc.{arc_has}
use Rattle.dname.proofs.SameLemmas.{same_name_decides}
use Rattle.denial_records.specs.declared.set_rec.SetRec.{SetRec}
use Rattle.denial_records.specs.declared.nsec_rec.NsecRec.{NsecRec}
use Rattle.denial_records.specs.declared.nsec3_rec.Nsec3Rec.{Nsec3Rec}
use Rattle.denial_records.specs.declared.record.Record.{Record}
use Rattle.denial_records.specs.declared.record.Record.TheVariants.{Set, Nsec, Nsec3}
use Rattle.cache_meaning.specs.Held.{Held, HashParameters, same_parameters, parameters_of}
use Rattle.cache_meaning.specs.Zones.{first_of, as_set_at, set_at, as_nsec_at, nsec_at, as_nsec3_at, nsec3_at}
use Rattle.cache_meaning.specs.Evidence.{usable_set, nsec_for, speaks_of, nsec3_for, hash_by}
use Rattle.cache_meaning.proofs.ChainLemmas.{parameters_equal}
use Rattle.soundness.specs.Sound.{IsUsable}
use Rattle.soundness.proofs.TestLemmas.{if_then, first_is, that_is}

-- ---- the first of several

-- where two choices take a record alike, the first that one gives and the first that the other gives are the same
module _ {A B : Type 0} (Alike : B → B → Type 0) (f g : A → Option B)
    (as_g : (a b : A) (x y : B) → f a ≡ Some x → g b ≡ Some y → Alike x y → g a ≡ Some x)
    (as_f : (a b : A) (x y : B) → g a ≡ Some y → f b ≡ Some x → Alike x y → f a ≡ Some y) where
  pub same_first : (items : List A) (x y : B) → first_of f items ≡ Some x → first_of g items ≡ Some y → Alike x y → x ≡ y
  same_first [] x y is is' alike = absurd (none-some x is)
  same_first (a ∷ items) x y is is' alike = by (f a) (g a) refl refl is is' (λ later later'. same_first items x y later later' alike)
    where
      has_x : (b : A) × Contains (a ∷ items) b × (f b ≡ Some x)
      has_x = first_is f (a ∷ items) x is

      has_y : (b : A) × Contains (a ∷ items) b × (g b ≡ Some y)
      has_y = first_is g (a ∷ items) y is'

      by : (o p : Option B) → f a ≡ o → g a ≡ p → option_or o (first_of f items) ≡ Some x → option_or p (first_of g items) ≡ Some y
          → (first_of f items ≡ Some x → first_of g items ≡ Some y → x ≡ y) → x ≡ y
      by (Some z) p fa ga is is' more =
          let taken : p ≡ Some x = sym ga ∙ as_g a has_y.0 x y (fa ∙ is) has_y.2 alike in
          same_Some x y (subst (λ (o : Option B). option_or o (first_of g items) ≡ Some y) taken is')
      by None (Some z) fa ga is is' more = absurd (none-some y (sym fa ∙ as_f a has_x.0 x y (ga ∙ is') has_x.2 alike))
      by None None fa ga is is' more = more is is'

-- ---- sets

-- a set of the zone at the owner name and type
pub record SetAt (apex owner : List Label) (rtype : ℕ) (set : SetRec) : Type 0 where
  pub of_zone : set.zone ≡ apex
  pub of_owner : set.owner ≡ owner
  pub of_type : set.rtype ≡ rtype

set_taken : (apex owner : List Label) (rtype : ℕ) (item : Record) (set : SetRec) → as_set_at apex owner rtype item ≡ Some set → (item ≡ Set set) × SetAt apex owner rtype set
set_taken apex owner rtype (Set it) set is =
    let taken = if_then (same_name it.zone apex && (same_name it.owner owner && (it.rtype == rtype))) (Some it) set is in
    let zone = and_parts (same_name it.zone apex) (same_name it.owner owner && (it.rtype == rtype)) taken.0 in
    let rest = and_parts (same_name it.owner owner) (it.rtype == rtype) zone.1 in
    let same = same_Some it set taken.1 in (
      ap Set same,
      subst (SetAt apex owner rtype) same
          (record {
            of_zone = (same_name_decides it.zone apex).0 zone.0;
            of_owner = (same_name_decides it.owner owner).0 rest.0;
            of_type = (Decides-eqb it.rtype rtype).0 rest.1;
          }),
    )
set_taken apex owner rtype (Nsec it) set is = absurd (none-some set is)
set_taken apex owner rtype (Nsec3 it) set is = absurd (none-some set is)

pub usable_set_found : (held : Held) (now : ℕ) (apex owner : List Label) (rtype : ℕ) (set : SetRec) → usable_set held now apex owner rtype ≡ Some set → SetAt apex owner rtype set × IsUsable held now (Set set)
usable_set_found held now apex owner rtype set is =
    let found = that_is (λ (it : SetRec). nat_lt now it.expiry) (set_at held apex owner rtype) set is in
    let item = first_is (as_set_at apex owner rtype) held.records set found.0 in
    let taken = set_taken apex owner rtype item.0 set item.2 in
    (taken.1, record { there = subst (Contains held.records) taken.0 item.1; usable = found.1 })

-- ---- NSEC records

-- an NSEC record of the zone whose arc has the name
pub record NsecFound (apex name : List Label) (nsec : NsecRec) : Type 0 where
  pub of_zone : same_name nsec.zone apex ≡ true
  pub has : arc_has canonical_cmp nsec.owner nsec.next name ≡ true

nsec_taken : (apex name : List Label) (item : Record) (nsec : NsecRec) → as_nsec_at apex name item ≡ Some nsec → (item ≡ Nsec nsec) × NsecFound apex name nsec
nsec_taken apex name (Set it) nsec is = absurd (none-some nsec is)
nsec_taken apex name (Nsec it) nsec is =
    let taken = if_then (same_name it.zone apex && arc_has canonical_cmp it.owner it.next name) (Some it) nsec is in
    let tests = and_parts (same_name it.zone apex) (arc_has canonical_cmp it.owner it.next name) taken.0 in
    let same = same_Some it nsec taken.1 in
    (ap Nsec same, subst (NsecFound apex name) same (record { of_zone = tests.0; has = tests.1 }))
nsec_taken apex name (Nsec3 it) nsec is = absurd (none-some nsec is)

takes_nsec : (apex name : List Label) (nsec : NsecRec) → NsecFound apex name nsec → as_nsec_at apex name (Nsec nsec) ≡ Some nsec
takes_nsec apex name nsec found = by (same_name nsec.zone apex) (arc_has canonical_cmp nsec.owner nsec.next name) found.of_zone found.has
  where
    by : (a b : Bool) → a ≡ true → b ≡ true → (if a && b then Some nsec else None) ≡ Some nsec
    by true true is is' = refl
    by true false is is' = cc
    by false b is is' = cc

abbrev pub HasArc : NsecRec → NsecRec → Type 0
HasArc x y = (x.owner ≡ y.owner) × (x.next ≡ y.next)

nsec_as : (apex name other : List Label) (a b : Record) (x y : NsecRec) → as_nsec_at apex name a ≡ Some x → as_nsec_at apex other b ≡ Some y → HasArc x y → as_nsec_at apex other a ≡ Some x
nsec_as apex name other a b x y is is' same =
    let taken = nsec_taken apex name a x is in
    let there = (nsec_taken apex other b y is').1 in
    let at_owner : arc_has canonical_cmp x.owner y.next other ≡ true = subst (λ o. arc_has canonical_cmp o y.next other ≡ true) (sym same.0) there.has in
    let at_both : arc_has canonical_cmp x.owner x.next other ≡ true = subst (λ n. arc_has canonical_cmp x.owner n other ≡ true) (sym same.1) at_owner in
    subst (λ (item : Record). as_nsec_at apex other item ≡ Some x) (sym taken.0) (takes_nsec apex other x (record { of_zone = taken.1.of_zone; has = at_both }))

pub one_nsec : (held : Held) (apex name other : List Label) (x y : NsecRec) → nsec_at held apex name ≡ Some x → nsec_at held apex other ≡ Some y → HasArc x y → x ≡ y
one_nsec held apex name other = same_first HasArc (as_nsec_at apex name) (as_nsec_at apex other)
    (nsec_as apex name other)
    (λ a b x y is is' same. nsec_as apex other name a b y x is is' (sym same.0, sym same.1))
    held.records

-- the record that speaks of the name
pub record NsecSpeaks (held : Held) (now : ℕ) (apex name : List Label) (nsec : NsecRec) : Type 0 where
  pub usable : IsUsable held now (Nsec nsec)
  pub first : nsec_at held apex name ≡ Some nsec
  pub of_zone : nsec.zone ≡ apex
  pub has : arc_has canonical_cmp nsec.owner nsec.next name ≡ true
  pub speaks : speaks_of apex name nsec ≡ true

pub nsec_found : (held : Held) (now : ℕ) (apex name : List Label) (nsec : NsecRec) → nsec_for held now apex name ≡ Some nsec → NsecSpeaks held now apex name nsec
nsec_found held now apex name nsec is =
    let found = that_is (λ (it : NsecRec). nat_lt now it.expiry && speaks_of apex name it) (nsec_at held apex name) nsec is in
    let item = first_is (as_nsec_at apex name) held.records nsec found.0 in
    let taken = nsec_taken apex name item.0 nsec item.2 in
    let tests = and_parts (nat_lt now nsec.expiry) (speaks_of apex name nsec) found.1 in
    record {
      usable = record { there = subst (Contains held.records) taken.0 item.1; usable = tests.0 };
      first = found.0;
      of_zone = (same_name_decides nsec.zone apex).0 taken.1.of_zone;
      has = taken.1.has;
      speaks = tests.1;
    }

-- ---- NSEC3 records

-- an NSEC3 record of the zone and the chain whose arc has the hash
pub record Nsec3Found (apex : List Label) (parameters : HashParameters) (hash : List ℕ) (nsec3 : Nsec3Rec) : Type 0 where
  pub of_zone : same_name nsec3.zone apex ≡ true
  pub of_chain : same_parameters (parameters_of nsec3) parameters ≡ true
  pub has : arc_has (slice_cmp nat_cmp) nsec3.hash nsec3.next hash ≡ true

nsec3_taken : (apex : List Label) (parameters : HashParameters) (hash : List ℕ) (item : Record) (nsec3 : Nsec3Rec) → as_nsec3_at apex parameters hash item ≡ Some nsec3 → (item ≡ Nsec3 nsec3) × Nsec3Found apex parameters hash nsec3
nsec3_taken apex parameters hash (Set it) nsec3 is = absurd (none-some nsec3 is)
nsec3_taken apex parameters hash (Nsec it) nsec3 is = absurd (none-some nsec3 is)
nsec3_taken apex parameters hash (Nsec3 it) nsec3 is =
    let chain = same_parameters (parameters_of it) parameters in
    let arc = arc_has (slice_cmp nat_cmp) it.hash it.next hash in
    let taken = if_then (same_name it.zone apex && (chain && arc)) (Some it) nsec3 is in
    let zone = and_parts (same_name it.zone apex) (chain && arc) taken.0 in
    let rest = and_parts chain arc zone.1 in
    let same = same_Some it nsec3 taken.1 in
    (ap Nsec3 same, subst (Nsec3Found apex parameters hash) same (record { of_zone = zone.0; of_chain = rest.0; has = rest.1 }))

takes_nsec3 : (apex : List Label) (parameters : HashParameters) (hash : List ℕ) (nsec3 : Nsec3Rec) → Nsec3Found apex parameters hash nsec3 → as_nsec3_at apex parameters hash (Nsec3 nsec3) ≡ Some nsec3
takes_nsec3 apex parameters hash nsec3 found =
    by (same_name nsec3.zone apex) (same_parameters (parameters_of nsec3) parameters) (arc_has (slice_cmp nat_cmp) nsec3.hash nsec3.next hash) found.of_zone found.of_chain found.has
  where
    by : (a b c : Bool) → a ≡ true → b ≡ true → c ≡ true → (if a && (b && c) then Some nsec3 else None) ≡ Some nsec3
    by true true true is is' is'' = refl
    by true true false is is' is'' = cc
    by true false c is is' is'' = cc
    by false b c is is' is'' = cc

abbrev pub HasHashedArc : Nsec3Rec → Nsec3Rec → Type 0
HasHashedArc x y = (x.hash ≡ y.hash) × (x.next ≡ y.next)

nsec3_as : (apex : List Label) (parameters : HashParameters) (hash other : List ℕ) (a b : Record) (x y : Nsec3Rec) → as_nsec3_at apex parameters hash a ≡ Some x → as_nsec3_at apex parameters other b ≡ Some y → HasHashedArc x y → as_nsec3_at apex parameters other a ≡ Some x
nsec3_as apex parameters hash other a b x y is is' same =
    let taken = nsec3_taken apex parameters hash a x is in
    let there = (nsec3_taken apex parameters other b y is').1 in
    let at_hash : arc_has (slice_cmp nat_cmp) x.hash y.next other ≡ true = subst (λ h. arc_has (slice_cmp nat_cmp) h y.next other ≡ true) (sym same.0) there.has in
    let at_both : arc_has (slice_cmp nat_cmp) x.hash x.next other ≡ true = subst (λ n. arc_has (slice_cmp nat_cmp) x.hash n other ≡ true) (sym same.1) at_hash in
    subst (λ (item : Record). as_nsec3_at apex parameters other item ≡ Some x) (sym taken.0)
    (takes_nsec3 apex parameters other x (record { of_zone = taken.1.of_zone; of_chain = taken.1.of_chain; has = at_both }))

pub one_nsec3 : (held : Held) (apex : List Label) (parameters : HashParameters) (hash other : List ℕ) (x y : Nsec3Rec) → nsec3_at held apex parameters hash ≡ Some x → nsec3_at held apex parameters other ≡ Some y → HasHashedArc x y → x ≡ y
one_nsec3 held apex parameters hash other = same_first HasHashedArc (as_nsec3_at apex parameters hash) (as_nsec3_at apex parameters other)
    (nsec3_as apex parameters hash other)
    (λ a b x y is is' same. nsec3_as apex parameters other hash a b y x is is' (sym same.0, sym same.1))
    held.records

-- the record of the chain that speaks of the name
pub record Nsec3Speaks (held : Held) (now : ℕ) (apex : List Label) (parameters : HashParameters) (name : List Label) (nsec3 : Nsec3Rec) : Type 0 where
  pub usable : IsUsable held now (Nsec3 nsec3)
  pub first : nsec3_at held apex parameters (hash_by parameters name) ≡ Some nsec3
  pub of_zone : nsec3.zone ≡ apex
  pub of_chain : parameters_of nsec3 ≡ parameters
  pub has : arc_has (slice_cmp nat_cmp) nsec3.hash nsec3.next (hash_by parameters name) ≡ true

pub nsec3_found : (held : Held) (now : ℕ) (apex : List Label) (parameters : HashParameters) (name : List Label) (nsec3 : Nsec3Rec) → nsec3_for held now apex parameters name ≡ Some nsec3 → Nsec3Speaks held now apex parameters name nsec3
nsec3_found held now apex parameters name nsec3 is =
    let found = that_is (λ (it : Nsec3Rec). nat_lt now it.expiry) (nsec3_at held apex parameters (hash_by parameters name)) nsec3 is in
    let item = first_is (as_nsec3_at apex parameters (hash_by parameters name)) held.records nsec3 found.0 in
    let taken = nsec3_taken apex parameters (hash_by parameters name) item.0 nsec3 item.2 in
    record {
      usable = record { there = subst (Contains held.records) taken.0 item.1; usable = found.1 };
      first = found.0;
      of_zone = (same_name_decides nsec3.zone apex).0 taken.1.of_zone;
      of_chain = parameters_equal (parameters_of nsec3) parameters taken.1.of_chain;
      has = taken.1.has;
    }
