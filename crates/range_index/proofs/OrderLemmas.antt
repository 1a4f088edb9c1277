use Rattle.std.proofs.Common.{◌≡◌, Bool, true, false, not, ◌&&◌, ◌||◌, if◌then◌else◌, refl, sym, ap, ◌∙◌, true≢false}
use Rattle.std.specs.Ordering.{is_lt, is_le, is_gt, ordering_reverse}
use Rattle.std.specs.declared.cmp.Ordering.{Ordering}
use Rattle.std.specs.declared.cmp.Ordering.TheVariants.{Less, Equal, Greater}
use Rattle.std.specs.Cmp.{IsTotalOrder}
use Rattle.std.proofs.lemmas.Cmp.{upto, tied_itself}
use Rattle.dname.specs.Arc.{arc_has, arcs_meet}

turned : (r : Ordering) → is_le r ≡ not (is_lt (ordering_reverse r))
turned Less = refl
turned Equal = refl
turned Greater = refl

gt_turned : (r : Ordering) → is_gt r ≡ is_lt (ordering_reverse r)
gt_turned Less = refl
gt_turned Equal = refl
gt_turned Greater = refl

not_both : (r : Ordering) → is_lt r ≡ true → is_lt (ordering_reverse r) ≡ false
not_both Less h = refl
not_both Equal h = refl
not_both Greater h = absurd (true≢false (sym h))

-- an arc's test, by whether it ends after its start, whether the key is before its start, and whether before its end
abbrev pub arc_test : Bool → Bool → Bool → Bool
arc_test plain before ends = if plain then not before && ends else not before || ends

pub either : (b : Bool) {P : Type 0} → (b ≡ true → P) → (b ≡ false → P) → P
either true f g = f refl
either false f g = g refl

module _ {K : Type 0} (cmp : K → K → Ordering) (o : IsTotalOrder cmp) where
  pub le_is : (a b : K) → is_le (cmp a b) ≡ not (is_lt (cmp b a))
  le_is a b = turned (cmp a b) ∙ ap (λ r. not (is_lt r)) (sym (o.antisymm b a))

  gt_is : (a b : K) → is_gt (cmp a b) ≡ is_lt (cmp b a)
  gt_is a b = gt_turned (cmp a b) ∙ ap is_lt (sym (o.antisymm b a))

  -- below, a is up to b where b isn't before a
  pub upto_upto : (a b c : K) → is_lt (cmp b a) ≡ false → is_lt (cmp c b) ≡ false → is_lt (cmp c a) ≡ false
  upto_upto a b c h k = sym (gt_is a c) ∙ upto o a b c (gt_is a b ∙ h) (gt_is b c ∙ k)

  pub before_upto : (a b c : K) → is_lt (cmp a b) ≡ true → is_lt (cmp c b) ≡ false → is_lt (cmp a c) ≡ true
  before_upto a b c h k = either (is_lt (cmp a c)) (λ e. e) (λ e. absurd (true≢false (sym h ∙ upto_upto b c a k e)))

  pub upto_before : (a b c : K) → is_lt (cmp b a) ≡ false → is_lt (cmp b c) ≡ true → is_lt (cmp a c) ≡ true
  upto_before a b c h k = either (is_lt (cmp a c)) (λ e. e) (λ e. absurd (true≢false (sym k ∙ upto_upto c a b e h)))

  pub before_back : (a b : K) → is_lt (cmp a b) ≡ true → is_lt (cmp b a) ≡ false
  before_back a b h = ap is_lt (o.antisymm b a) ∙ not_both (cmp a b) h

  pub upto_itself : (a : K) → is_lt (cmp a a) ≡ false
  upto_itself a = ap is_lt (tied_itself o a)

  pub has_is : (start end key : K) → arc_has cmp start end key ≡ arc_test (is_lt (cmp start end)) (is_lt (cmp key start)) (is_lt (cmp key end))
  has_is start end key =
      ap (λ b. if is_lt (cmp start end) then b && is_lt (cmp key end) else b || is_lt (cmp key end)) (le_is start key)

  pub has_by : (start end key : K) (p q r : Bool) → is_lt (cmp start end) ≡ p → is_lt (cmp key start) ≡ q → is_lt (cmp key end) ≡ r → arc_has cmp start end key ≡ arc_test p q r
  has_by start end key p q r h k l = has_is start end key ∙ ap (λ x. arc_test x (is_lt (cmp key start)) (is_lt (cmp key end))) h ∙ ap (λ x. arc_test p x (is_lt (cmp key end))) k ∙ ap (λ x. arc_test p q x) l

pub test_plain : (p r : Bool) → arc_test p false r ≡ false → (p ≡ true) × (r ≡ false)
test_plain true r h = (refl, h)
test_plain false r h = absurd (true≢false h)

pub test_over : (r : Bool) → arc_test false true r ≡ false → r ≡ false
test_over r h = h

pub neither : (p q : Bool) → not (p || q) ≡ true → (p ≡ false) × (q ≡ false)
neither true q h = absurd (true≢false (sym h))
neither false true h = absurd (true≢false (sym h))
neither false false h = (refl, refl)

pub by_neither : (p q : Bool) → p ≡ false → q ≡ false → not (p || q) ≡ true
by_neither p q h k = ap (λ x. not (x || q)) h ∙ ap not k

pub by_first : (p q : Bool) → p ≡ true → not (p || q) ≡ false
by_first p q h = ap (λ x. not (x || q)) h

or_true : (p : Bool) → not (p || true) ≡ false
or_true true = refl
or_true false = refl

pub by_second : (p q : Bool) → q ≡ true → not (p || q) ≡ false
by_second p q h = ap (λ x. not (p || x)) h ∙ or_true p

-- the arc of a span before another's: it ends at or before the other's start, and the other's ends at or before its start, if that goes over the end
pub record IsBehind {K : Type 0} (cmp : K → K → Ordering) (start end start' end' : K) : Type 0 where
  pub plain : is_lt (cmp start end) ≡ true
  pub ends : is_lt (cmp start' end) ≡ false
  pub over : is_lt (cmp start' end') ≡ false → is_lt (cmp start end') ≡ false

pub IsBehind-apart : {K : Type 0} (cmp : K → K → Ordering) → IsTotalOrder cmp → (a b c d : K) → is_lt (cmp a c) ≡ true → not (arcs_meet cmp a b c d) ≡ true → IsBehind cmp a b c d
IsBehind-apart cmp o a b c d before apart =
    let two : (arc_has cmp a b c ≡ false) × (arc_has cmp c d a ≡ false) = neither (arc_has cmp a b c) (arc_has cmp c d a) apart in
    let first : (is_lt (cmp a b) ≡ true) × (is_lt (cmp c b) ≡ false) =
    test_plain (is_lt (cmp a b)) (is_lt (cmp c b)) (sym (has_by cmp o a b c (is_lt (cmp a b)) false (is_lt (cmp c b)) refl (before_back cmp o a c before) refl) ∙ two.0) in
    record {
      plain = first.0;
      ends = first.1;
      over = λ w. sym (has_by cmp o c d a false true (is_lt (cmp a d)) w before refl) ∙ two.1;
    }
