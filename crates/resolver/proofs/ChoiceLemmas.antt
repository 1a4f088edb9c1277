-- What a choice of several tells, and the set that is found.
use Rattle.std.proofs.Common.{◌≡◌, ℕ, Bool, true, false, List, [], ◌∷◌, Option, None, Some, inl, inr, refl, subst}
use Rattle.std.specs.Prelude.{◌&&◌, ◌==◌, ◌⊎◌, nat_lt, if◌then◌else◌}
use Rattle.std.specs.List.{Contains}
use Rattle.std.specs.Option.{option_or, option_map}
use Rattle.std.proofs.lemmas.Bool.{and_parts}
use Rattle.std.proofs.lemmas.Bool.Decides.{Decides-eqb}
use Rattle.std.proofs.lemmas.Option.{none-some, same_Some}
use Rattle.facts.proofs.Lists.{here, there}
use Rattle.dname.specs.Name.{Label}
use Rattle.dname.specs.Tests.{same_name}
use Rattle.dname.proofs.SameLemmas.{same_name_decides}
use Rattle.denial_records.specs.declared.set_rec.SetRec.{SetRec}
use Rattle.denial_records.specs.declared.record.Record.{Record}
use Rattle.denial_records.specs.declared.record.Record.TheVariants.{Set, Nsec, Nsec3}
use Rattle.cache_meaning.specs.Held.{Held}
use Rattle.cache_meaning.specs.Zones.{first_of, as_set_at, set_at}
use Rattle.cache_meaning.specs.Evidence.{that, usable_set}
use Rattle.soundness.specs.Sound.{IsUsable}

-- ---- what a choice of several tells

pub either_of : {T : Type 0} (first other : Option T) (y : T) → option_or first other ≡ Some y → (first ≡ Some y) ⊎ (other ≡ Some y)
either_of None other y is = inr is
either_of (Some x) other y is = inl is

pub mapped : {A B : Type 0} (f : A → B) (o : Option A) (y : B) → option_map f o ≡ Some y → (x : A) × (o ≡ Some x) × (f x ≡ y)
mapped f None y is = absurd (none-some y is)
mapped f (Some x) y is = (x, refl, same_Some (f x) y is)

pub if_then : {T : Type 0} (b : Bool) (o : Option T) (y : T) → (if b then o else None) ≡ Some y → (b ≡ true) × (o ≡ Some y)
if_then true o y is = (refl, is)
if_then false o y is = absurd (none-some y is)

pub if_else : {T : Type 0} (b : Bool) (o : Option T) (y : T) → (if b then None else o) ≡ Some y → (b ≡ false) × (o ≡ Some y)
if_else true o y is = absurd (none-some y is)
if_else false o y is = (refl, is)

that_is : {A : Type 0} (test : A → Bool) (o : Option A) (x : A) → that test o ≡ Some x → (o ≡ Some x) × (test x ≡ true)
that_is test None x is = absurd (none-some x is)
that_is {A} test (Some y) x is = let passed = if_then (test y) (Some y) x is in (passed.1, found y (same_Some y x passed.1) passed.0)
  where
    found : (y : A) → y ≡ x → test y ≡ true → test x ≡ true
    found y same passed = subst (λ z. test z ≡ true) same passed

first_is : {A B : Type 0} (choose : A → Option B) (xs : List A) (y : B) → first_of choose xs ≡ Some y → (x : A) × Contains xs x × (choose x ≡ Some y)
first_is choose [] y is = absurd (none-some y is)
first_is {A} {B} choose (x ∷ xs) y is = by (either_of (choose x) (first_of choose xs) y is) (first_is choose xs y)
  where
    by : (choose x ≡ Some y) ⊎ (first_of choose xs ≡ Some y) → (first_of choose xs ≡ Some y → (z : A) × Contains xs z × (choose z ≡ Some y)) → (z : A) × Contains (x ∷ xs) z × (choose z ≡ Some y)
    by (inl now) more = (x, here x xs, now)
    by (inr after) more = let found = more after in (found.0, there x xs found.0 found.1, found.2)

-- ---- the set that is found

-- a set of the zone at the owner name and type, which may be used
pub record SetFound (held : Held) (now : ℕ) (apex owner : List Label) (rtype : ℕ) (set : SetRec) : Type 0 where
  pub of_zone : set.zone ≡ apex
  pub of_owner : set.owner ≡ owner
  pub of_type : set.rtype ≡ rtype
  pub usable : IsUsable held now (Set set)

pub set_found : (held : Held) (now : ℕ) (apex owner : List Label) (rtype : ℕ) (set : SetRec) → usable_set held now apex owner rtype ≡ Some set → SetFound held now apex owner rtype set
set_found held now apex owner rtype set is =
    let found = that_is (λ (it : SetRec). nat_lt now it.expiry) (set_at held apex owner rtype) set is in
    let item = first_is (as_set_at apex owner rtype) held.records set found.0 in
    by item.0 item.2 item.1 found.1
  where
    by : (item : Record) → as_set_at apex owner rtype item ≡ Some set → Contains held.records item → nat_lt now set.expiry ≡ true → SetFound held now apex owner rtype set
    by (Set it) taken there live =
        let tests = if_then (same_name it.zone apex && (same_name it.owner owner && (it.rtype == rtype))) (Some it) set taken in
        let zone = and_parts (same_name it.zone apex) (same_name it.owner owner && (it.rtype == rtype)) tests.0 in
        let rest = and_parts (same_name it.owner owner) (it.rtype == rtype) zone.1 in
        let same = same_Some it set tests.1 in
        record {
          of_zone = subst (λ (s : SetRec). s.zone ≡ apex) same ((same_name_decides it.zone apex).0 zone.0);
          of_owner = subst (λ (s : SetRec). s.owner ≡ owner) same ((same_name_decides it.owner owner).0 rest.0);
          of_type = subst (λ (s : SetRec). s.rtype ≡ rtype) same ((Decides-eqb it.rtype rtype).0 rest.1);
          usable = record { there = subst (λ (s : SetRec). Contains held.records (Set s)) same there; usable = live };
        }
    by (Nsec it) taken there live = absurd (none-some set taken)
    by (Nsec3 it) taken there live = absurd (none-some set taken)
