-- Each step keeps the rule of the published version.
use Rattle.std.proofs.Common.{◌≡◌, ◌≢◌, ℕ, List, All, [], ◌∷◌, length, set, refl, sym, ◌∙◌, ap, subst, ⊎_elim, arith, slice_index_or}
use mathlib.Core.Option.{some}
use lib.ListN.{get_elem?}
use Rattle.atomic_table.proofs.Lists.{at_set, at_snoc, set_again}
use Rattle.crossbeam_utils.specs.Register.{Admits, TurnsAt, Forks, Merges}
use Rattle.std.specs.Arc.{arc_value}
use Rattle.cache_versions.specs.declared.version.Recorded.{Recorded}
use Rattle.cache_versions.specs.declared.version.Known.{Known}
use Rattle.cache_versions.specs.Kin.{content_of, Kin, known, EachKin, KnowsKin, IsMade, Sound, Kept, Looks, Meets}

module _ {S B : Type 0} where
  pub kin_refl : (u : Recorded S B) → Kin u u
  kin_refl u = (refl, refl)

  pub kin_sym : (u v : Recorded S B) → Kin u v → Kin v u
  kin_sym u v k = (sym k.0, sym k.1)

  pub kin_trans : (u v w : Recorded S B) → Kin u v → Kin v w → Kin u w
  kin_trans u v w k l = (k.0 ∙ l.0, k.1 ∙ l.1)

  each_on : (k : Known S B) (v w : Recorded S B) → EachKin k v → Kin v w → EachKin k w
  each_on k v w all kin i d h = kin_trans (slice_index_or k.met i d) v w (all i d h) kin

  pub each_of : (u v : Recorded S B) → Kin u v → EachKin (known (u ∷ [])) v
  each_of u v kin i d h = let P : ℕ → Type 0 = λ j. Kin (slice_index_or (u ∷ []) j d) v in let zero_is : 0 ≡ i = omega arith in subst P zero_is kin

  each_none : (v : Recorded S B) → EachKin (known []) v
  each_none v i d h = absurd (omega arith)

  pub kin_same : (u v : Recorded S B) → content_of v ≡ content_of u → Kin u v
  kin_same u v e = (sym (ap (λ c. c.1.book) e), sym (ap (λ c. arc_value c.0.opening) e))

  one_kin : (ms : List (Recorded S B)) (u v : Recorded S B) → length ms ≡ 1 → All (λ r. Kin r u) ms → All (λ r. Kin r v) ms → Kin u v
  one_kin [] u v one us vs = absurd (omega arith)
  one_kin (m ∷ ms) u v one us vs = kin_trans u m v (kin_sym m u (us 0 m (omega arith))) (vs 0 m (omega arith))

  -- what is met is kin to what a place knows of
  pub met_kin : (k : Known S B) (u v : Recorded S B) → KnowsKin k u → EachKin k v → Kin u v
  met_kin k u v knows vs = one_kin k.met u v knows.0 knows.1 vs

  pub knows_on : (k : Known S B) (u v : Recorded S B) → KnowsKin k u → Kin u v → KnowsKin k v
  knows_on k u v knows kin = (knows.0, each_on k u v knows.1 kin)

  pub knows_one : (m v : Recorded S B) → Kin m v → KnowsKin (known (m ∷ [])) v
  knows_one m v kin = (refl, each_of m v kin)

module _ {S B : Type 0} (after : S → B → S) (most : ℕ) where
  pub sound_same : (u v : Recorded S B) → content_of v ≡ content_of u → Sound after most u → Sound after most v
  sound_same u v e h = subst (IsMade after most) (sym e) h

  pub looks : (pass : ℕ) (k : Known S B) (x y : Recorded S B) → Kin x y → (Sound after most x → Sound after most y) → TurnsAt (Kept after most) pass k x y (Looks after most)
  looks pass k x y kin sound views h at = (
    k,
    (
      sound h.0,
      λ j l e. each_on l x y (h.1 j l (subst (λ (vs : List (Known S B)). get_elem? vs j ≡ some l) (set_again views pass k at) e)) kin,
    ),
    (h.1 pass k at, h.0, refl),
  )

  pub meets : (pass : ℕ) (k : Known S B) (x y : Recorded S B) → Kin x y → (Sound after most x → Sound after most y) → TurnsAt (Kept after most) pass k x y Meets
  meets pass k x y kin sound views h at = let w : Known S B = known (y ∷ []) in (
    w,
    (
      sound h.0,
      λ j l e. ⊎_elim (λ (t : (j ≡ pass) × (w ≡ l)). subst (λ (z : Known S B). EachKin z y) t.1 (each_of y y (kin_refl y)))
          (λ (t : (j ≢ pass) × (get_elem? views j ≡ some l)). each_on l x y (h.1 j l t.1) kin) (at_set views pass j w l e),
    ),
    refl,
  )

  pub admits : Admits {V = Known S B} (Kept after most) (known [])
  admits x views h = (
    h.0,
    λ j l e. ⊎_elim (h.1 j l) (λ (same : known [] ≡ l). subst (λ (z : Known S B). EachKin z x) same (each_none x)) (at_snoc views (known []) l j e),
  )

  set_kept : (x : Recorded S B) (views : List (Known S B)) (pass : ℕ) (k : Known S B) → Kept after most x views → EachKin k x → Kept after most x (set views pass k)
  set_kept x views pass k h mine = (
    h.0,
    λ j l e. ⊎_elim (λ (t : (j ≡ pass) × (k ≡ l)). subst (λ (z : Known S B). EachKin z x) t.1 mine) (λ (t : (j ≢ pass) × (get_elem? views j ≡ some l)). h.1 j l t.1) (at_set views pass j k l e),
  )

  pub forks : (pass : ℕ) (k : Known S B) → Forks (Kept after most) pass k k k
  forks pass k x views h at = (
    h.0,
    λ j l e. ⊎_elim ((set_kept x views pass k h (h.1 pass k at)).1 j l) (λ (same : k ≡ l). subst (λ (z : Known S B). EachKin z x) same (h.1 pass k at)) (at_snoc (set views pass k) k l j e),
  )

  pub merges : (pass : ℕ) (v : Known S B) (other : ℕ) (w : Known S B) → Merges (Kept after most) pass v other w w (known [])
  merges pass v other w x views h at apart there =
      let mine : EachKin w x = ⊎_elim (λ (t : (other ≡ pass) × (w ≡ w)). absurd (apart t.0)) (λ (t : (other ≢ pass) × (get_elem? views other ≡ some w)). h.1 other w t.1) (at_set views pass other w w there) in
      set_kept x (set views pass w) other (known []) (set_kept x views pass w h mine) (each_none x)
