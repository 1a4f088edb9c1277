-- Names with six decimal digits stand in the order of their numbers.
use Rattle.std.proofs.Common.{◌≡◌, ◌≢◌, ℕ, zero, suc, ◌/◌, ◌<◌, ◌≤◌, List, [], ◌∷◌, length, reverse, refl, ◌∙◌, ap, arith}
use Rattle.std.specs.Prelude.{codes}
use Rattle.std.specs.declared.cmp.Ordering.{Ordering}
use Rattle.std.specs.declared.cmp.Ordering.TheVariants.{Less, Equal, Greater}
use Rattle.std.specs.Ordering.{MatchOrdering, nat_cmp, ordering_then}
use Rattle.std.specs.Cmp.Lexicographic.{slice_cmp}
use Rattle.std.proofs.lemmas.Cmp.{ranked}
use Rattle.dname.specs.Name.{Label, IsUnder, asterisk, label_cmp, canonical_cmp}
use Rattle.dname.proofs.TogetherLemmas.{above_is_first}
use Rattle.zone_maker.specs.Made.{made_example, digit, six_digits, NameKind, Host, Above, Cut, Wild, kind_at, owner_in, made_owner}
use Rattle.zone_maker.proofs.NameLemmas.{label_at}

-- ---- numbers

-- of two lists that go on from digits of numbers that are one but for the last digit
level : (a b : ℕ) (xs ys : List ℕ) → a / 10 ≡ b / 10 → a ≤ b → (a ≡ b → slice_cmp nat_cmp xs ys ≡ Less) → slice_cmp nat_cmp (digit a ∷ xs) (digit b ∷ ys) ≡ Less
level a b xs ys upper least rest = by (nat_cmp (digit a) (digit b)) (ranked (digit a) (digit b) (nat_cmp (digit a) (digit b)) refl)
  where
    by : (r : Ordering) → MatchOrdering r (digit a < digit b) (digit a ≡ digit b) (digit b < digit a) → ordering_then r (slice_cmp nat_cmp xs ys) ≡ Less
    by Less less = refl
    by Equal same = rest (omega (arith, upper, same))
    by Greater more = absurd (omega (arith, upper, least, more))

-- the last digits
abbrev one_digit : ℕ → List ℕ
one_digit i = digit i ∷ []

abbrev two_digits : ℕ → List ℕ
two_digits i = digit (i / 10) ∷ one_digit i

abbrev three_digits : ℕ → List ℕ
three_digits i = digit (i / 100) ∷ two_digits i

abbrev four_digits : ℕ → List ℕ
four_digits i = digit (i / 1000) ∷ three_digits i

abbrev five_digits : ℕ → List ℕ
five_digits i = digit (i / 10000) ∷ four_digits i

pub digits_in_order : (i j : ℕ) → i < j → j < 1000000 → slice_cmp nat_cmp (six_digits i) (six_digits j) ≡ Less
digits_in_order i j less small =
    level (i / 100000) (j / 100000) (five_digits i) (five_digits j) (omega (arith, less, small)) (omega (arith, less)) (λ e.
    level (i / 10000) (j / 10000) (four_digits i) (four_digits j) (omega (arith, e)) (omega (arith, less)) (λ e.
    level (i / 1000) (j / 1000) (three_digits i) (three_digits j) (omega (arith, e)) (omega (arith, less)) (λ e.
    level (i / 100) (j / 100) (two_digits i) (two_digits j) (omega (arith, e)) (omega (arith, less)) (λ e.
    level (i / 10) (j / 10) (one_digit i) (one_digit j) (omega (arith, e)) (omega (arith, less)) (λ e.
    level i j [] [] e (omega (arith, less)) (λ e. absurd (omega (arith, e, less))))))))

-- ---- names

pub labels_in_order : (i j : ℕ) → i < j → j < 1000000 → label_cmp (label_at i) (label_at j) ≡ Less
labels_in_order i j less small = digits_in_order i j less small

-- what stands before that label in an owner
abbrev front_in : NameKind → List Label
front_in Host = []
front_in Above = codes "x" ∷ []
front_in Cut = []
front_in Wild = asterisk ∷ []

from_the_right : (kind : NameKind) (label : Label) → reverse (owner_in kind (label ∷ made_example)) ≡ codes "example" ∷ codes "made" ∷ label ∷ front_in kind
from_the_right Host label = refl
from_the_right Above label = refl
from_the_right Cut label = refl
from_the_right Wild label = refl

-- an owner is before another where its name's label is
owners_in_order : (kind kind' : NameKind) (label label' : Label) → label_cmp label label' ≡ Less → canonical_cmp (owner_in kind (label ∷ made_example)) (owner_in kind' (label' ∷ made_example)) ≡ Less
owners_in_order kind kind' label label' less =
    ap (λ (xs : List Label). slice_cmp label_cmp xs (reverse (owner_in kind' (label' ∷ made_example)))) (from_the_right kind label)
    ∙ ap (λ (ys : List Label). slice_cmp label_cmp (codes "example" ∷ codes "made" ∷ label ∷ front_in kind) ys) (from_the_right kind' label')
    ∙ ap (λ o. ordering_then o (slice_cmp label_cmp (front_in kind) (front_in kind'))) less

pub owner_under : (kind : NameKind) (label : Label) → IsUnder (owner_in kind (label ∷ made_example)) made_example
owner_under Host label = (_ ∷ [], refl)
owner_under Above label = (_ ∷ _ ∷ [], refl)
owner_under Cut label = (_ ∷ [], refl)
owner_under Wild label = (_ ∷ _ ∷ [], refl)

pub owner_is_no_apex : (kind : NameKind) (label : Label) → owner_in kind (label ∷ made_example) ≢ made_example
owner_is_no_apex Host label same = omega (arith, ap length same)
owner_is_no_apex Above label same = omega (arith, ap length same)
owner_is_no_apex Cut label same = omega (arith, ap length same)
owner_is_no_apex Wild label same = omega (arith, ap length same)

-- the owners are numbered in canonical order
pub owners_rise : (i j : ℕ) → i < j → j ≤ 1000000 → canonical_cmp (made_owner i) (made_owner j) ≡ Less
owners_rise zero zero less small = absurd (omega (arith, less))
owners_rise zero (suc j) less small = above_is_first (made_owner (suc j)) made_example (owner_under (kind_at j) (label_at j)) (owner_is_no_apex (kind_at j) (label_at j))
owners_rise (suc i) zero less small = absurd (omega (arith, less))
owners_rise (suc i) (suc j) less small = owners_in_order (kind_at i) (kind_at j) (label_at i) (label_at j) (labels_in_order i j (omega (arith, less)) (omega (arith, small)))
