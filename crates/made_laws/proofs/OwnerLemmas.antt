-- Which owners of a made zone are one, and which are below a cut.
use Rattle.std.proofs.Common.{◌≡◌, ◌≢◌, ℕ, zero, suc, ◌<◌, ◌≤◌, ⊎_elim, ◌∷◌, length, ◌∙◌, ap, subst, arith}
use Rattle.std.specs.Prelude.{codes}
use Rattle.std.specs.declared.cmp.Ordering.TheVariants.{Less}
use Rattle.std.specs.Cmp.Lexicographic.{nat_list_cmp_total}
use Rattle.std.proofs.lemmas.Bool.{cases_lt}
use Rattle.dname.specs.Name.{Label, IsUnder, asterisk, label_cmp, canonical_cmp}
use Rattle.dname.proofs.ArcLemmas.{not_before_itself}
use Rattle.dname.specs.Order.{canonical_total}
use Rattle.dname.proofs.UnderLemmas.{under_is_longer, under_step}
use Rattle.zone_maker.specs.Made.{made_example, name_at, NameKind, Host, Above, Cut, Wild, kind_at, owner_in, made_owner}
use Rattle.zone_maker.proofs.NameLemmas.{label_at}
use Rattle.made_laws.proofs.OrderLemmas.{labels_in_order, owners_rise}
use Rattle.made_laws.proofs.RingLemmas.{one_number}

-- each owner has one number
pub one_owner : (i j : ℕ) → i ≤ 1000000 → j ≤ 1000000 → made_owner i ≡ made_owner j → i ≡ j
one_owner i j small small' same = one_number canonical_cmp canonical_total made_owner 1000000 owners_rise i j small small' same

-- ---- cuts

-- a name of three labels is not below another
too_short : (label : Label) → IsUnder made_example (label ∷ made_example) → ⊥
too_short label under = omega (arith, under_is_longer made_example (label ∷ made_example) under)

three_labels : (label other : Label) → IsUnder (label ∷ made_example) (other ∷ made_example) → label ∷ made_example ≡ other ∷ made_example
three_labels label other under = ⊎_elim (λ same. same) (λ (more : IsUnder made_example (other ∷ made_example)). absurd (too_short other more)) (under_step label made_example (other ∷ made_example) under)

four_labels : (first label other : Label) → IsUnder (first ∷ label ∷ made_example) (other ∷ made_example) → label ∷ made_example ≡ other ∷ made_example
four_labels first label other under = ⊎_elim
    (λ (same : first ∷ label ∷ made_example ≡ other ∷ made_example). absurd (omega (arith, ap length same)))
    (λ (more : IsUnder (label ∷ made_example) (other ∷ made_example)). three_labels label other more)
    (under_step first (label ∷ made_example) (other ∷ made_example) under)

-- an owner at or below a name is that name's
name_above : (kind : NameKind) (label other : Label) → IsUnder (owner_in kind (label ∷ made_example)) (other ∷ made_example) → label ∷ made_example ≡ other ∷ made_example
name_above Host label other under = three_labels label other under
name_above Above label other under = four_labels (codes "x") label other under
name_above Cut label other under = three_labels label other under
name_above Wild label other under = four_labels asterisk label other under

-- names are numbered too
pub one_name_number : (i j : ℕ) → i < 1000000 → j < 1000000 → name_at i ≡ name_at j → i ≡ j
one_name_number i j small small' same = ⊎_elim
    (λ (less : i < j). absurd (not_before_itself label_cmp nat_list_cmp_total (label_at j) (subst (λ l. label_cmp l (label_at j) ≡ Less) labels (labels_in_order i j less small'))))
    (λ (least : j ≤ i). ⊎_elim
    (λ (more : j < i). absurd (not_before_itself label_cmp nat_list_cmp_total (label_at j) (subst (λ l. label_cmp (label_at j) l ≡ Less) labels (labels_in_order j i more small))))
    (λ (most : i ≤ j). omega (arith, least, most))
    (cases_lt j i))
    (cases_lt i j)
  where
    labels : label_at i ≡ label_at j
    labels = cc

at_cut : (i : ℕ) (kind : NameKind) → kind ≡ Cut → owner_in kind (name_at i) ≡ name_at i
at_cut i kind cut = ap (λ t. owner_in t (name_at i)) cut

-- no owner is below a cut
pub none_below_cut : (k i : ℕ) → k ≤ 1000000 → i < 1000000 → kind_at i ≡ Cut → IsUnder (made_owner k) (name_at i) → made_owner k ≢ name_at i → ⊥
none_below_cut zero i small small' cut under apart = too_short (label_at i) under
none_below_cut (suc j) i small small' cut under apart =
    let same : name_at j ≡ name_at i = name_above (kind_at j) (label_at j) (label_at i) under in
    let one : j ≡ i = one_name_number j i (omega (arith, small)) small' same in
    apart (at_cut j (kind_at j) (ap kind_at one ∙ cut) ∙ same)
