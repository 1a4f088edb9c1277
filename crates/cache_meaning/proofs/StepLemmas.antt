-- Steps that are tried in turn.
use Rattle.std.proofs.Common.{◌≡◌, ℕ, ◌≤◌, Bool, true, List, [], ◌∷◌, length, map, get_or, Option, Some, None, refl, sym, ◌∙◌, ap, arith, slice_get}
use Rattle.std.specs.Prelude.{if◌then◌else◌}
use Rattle.std.specs.Option.{option_or, option_map, option_and_then}
use Rattle.dname.specs.Name.{Label}
use Rattle.dname.specs.Tests.{is_under}
use Rattle.denial_records.specs.Proof.{Proof}
use Rattle.cache_meaning.specs.Held.{Held, HashParameters}
use Rattle.cache_meaning.specs.Zones.{HeldZone, zone_in, first_of}
use Rattle.cache_meaning.specs.Evidence.{nsec3_for}
use Rattle.cache_meaning.specs.Nsec3Steps.{by_cover, by_enclosers}

-- the test holds, and the first gives nothing
pub second_of : {A : Type 0} (test : Bool) (first second : Option A) → test ≡ true → first ≡ None → second ≡ (if test then option_or first second else None)
second_of test first second holds nothing = sym (λ k. if holds k then option_or (nothing k) second else None)

-- the test holds, and the first gives it
pub first_gives : {A : Type 0} (test : Bool) (first second : Option A) (it : A) → test ≡ true → first ≡ Some it → Some it ≡ (if test then option_or first second else None)
first_gives test first second it holds gives = sym (λ k. if holds k then option_or (gives k) second else None)

-- of two at most, the second is tried behind the first
pub two_in_turn : {A B : Type 0} (step : A → Option B) (xs : List A) → length xs ≤ 2 → option_or (option_and_then step (slice_get xs 0)) (option_and_then step (slice_get xs 1)) ≡ first_of step xs
two_in_turn step [] few = refl
two_in_turn step (x ∷ []) few = refl
two_in_turn {A} {B} step (x ∷ y ∷ []) few = ap (option_or (step x)) (alone (step y))
  where
    alone : (found : Option B) → found ≡ option_or found None
    alone None = refl
    alone (Some it) = refl
two_in_turn step (x ∷ y ∷ z ∷ rest) few = absurd (omega arith)

-- of what two places show
pub two_places : {A B : Type 0} (shows : A → B) (xs : List A) (first second : B) (other : A) → map shows xs ≡ first ∷ second ∷ []
    → (shows (get_or xs 0 other) ≡ first) × (shows (get_or xs 1 other) ≡ second)
two_places shows [] first second other is = cc
two_places shows (x ∷ []) first second other is = cc
two_places shows (x ∷ y ∷ rest) first second other is = (cc, cc)

-- the zone that is found
pub in_zone : {B : Type 0} (held : Held) (step : Held → List Label → Option B) (found : Option (List Label)) (zone : HeldZone) → Some zone ≡ option_map (zone_in held) found
    → step zone.held zone.apex ≡ option_and_then (step held) found
in_zone held step None zone is = cc
in_zone held step (Some apex) zone is =
    let same : zone ≡ zone_in held apex = cc in
    ap (λ (z : HeldZone). step z.held z.apex) same

-- an encloser gives a proof, or the next is tried
module _ (held : Held) (now : ℕ) (zone : List Label) (parameters : HashParameters) (qtype : ℕ) (label : Label) (encloser name : List Label) (longer : name ≡ label ∷ encloser) (under : is_under encloser zone ≡ true) where
  pub encloser_gives : (it : Proof) → Some it ≡ option_and_then (by_cover held now zone parameters qtype name encloser) (nsec3_for held now zone parameters name)
      → Some it ≡ by_enclosers held now zone parameters qtype name
  encloser_gives it gives =
      first_gives (is_under encloser zone) _ (by_enclosers held now zone parameters qtype encloser) it under
      (ap (λ (n : List Label). option_and_then (by_cover held now zone parameters qtype n encloser) (nsec3_for held now zone parameters n)) (sym longer) ∙ sym gives)
      ∙ ap (by_enclosers held now zone parameters qtype) (sym longer)

  pub encloser_fails : None ≡ option_and_then (by_cover held now zone parameters qtype name encloser) (nsec3_for held now zone parameters name)
      → by_enclosers held now zone parameters qtype name ≡ by_enclosers held now zone parameters qtype encloser
  encloser_fails fails =
      ap (by_enclosers held now zone parameters qtype) longer
      ∙ sym (second_of (is_under encloser zone) _ (by_enclosers held now zone parameters qtype encloser) under
      (ap (λ (n : List Label). option_and_then (by_cover held now zone parameters qtype n encloser) (nsec3_for held now zone parameters n)) (sym longer) ∙ sym fails))
