-- The names of a made zone are short, without capitals, and each another.
use Rattle.std.proofs.Common.{◌≡◌, ◌≢◌, ℕ, ◌/◌, ◌<◌, List, [], ◌∷◌, ◌++◌, length, reverse, get_or, refl, sym, ◌∙◌, ap, arith}
use Rattle.std.specs.Prelude.{codes}
use Rattle.std.specs.Char.{to_ascii_lowercase}
use Rattle.std.proofs.lemmas.Str.Ascii.{lowercase_is}
use Rattle.dname.specs.Name.{Label, lowered}
use Rattle.zone_maker.specs.Made.{made_example, digit, six_digits, name_at, NameKind, Host, Above, Cut, Wild, owner_in}

-- ---- digits

abbrev one_digit : ℕ → List ℕ
one_digit i = digit i ∷ []

abbrev two_digits : ℕ → List ℕ
two_digits i = digit (i / 10) ∷ one_digit i

abbrev three_digits : ℕ → List ℕ
three_digits i = digit (i / 100) ∷ two_digits i

abbrev four_digits : ℕ → List ℕ
four_digits i = digit (i / 1000) ∷ three_digits i

abbrev five_digits : ℕ → List ℕ
five_digits i = digit (i / 10000) ∷ four_digits i

-- the first label of name number i
abbrev pub label_at : ℕ → Label
label_at i = codes "n" ++ six_digits i

-- a number is given by what is before its last digit, and by that digit
same_number : (a b : ℕ) → a / 10 ≡ b / 10 → digit a ≡ digit b → a ≡ b
same_number a b upper last = omega (arith, upper, last)

pub label_gives_number : (i j : ℕ) → i < 1000000 → j < 1000000 → label_at i ≡ label_at j → i ≡ j
label_gives_number i j small small' same =
    let a : i / 100000 ≡ j / 100000 = same_number (i / 100000) (j / 100000) (omega (arith, small, small')) (ap (λ l. get_or l 1 0) same) in
    let b : i / 10000 ≡ j / 10000 = same_number (i / 10000) (j / 10000) (omega (arith, a)) (ap (λ l. get_or l 2 0) same) in
    let c : i / 1000 ≡ j / 1000 = same_number (i / 1000) (j / 1000) (omega (arith, b)) (ap (λ l. get_or l 3 0) same) in
    let d : i / 100 ≡ j / 100 = same_number (i / 100) (j / 100) (omega (arith, c)) (ap (λ l. get_or l 4 0) same) in
    let e : i / 10 ≡ j / 10 = same_number (i / 10) (j / 10) (omega (arith, d)) (ap (λ l. get_or l 5 0) same) in
    same_number i j e (ap (λ l. get_or l 6 0) same)

pub digit_lower : (n : ℕ) (rest : List ℕ) → lowered rest ≡ rest → lowered (digit n ∷ rest) ≡ digit n ∷ rest
digit_lower n rest same =
    let low : to_ascii_lowercase (digit n) ≡ digit n = (lowercase_is (digit n)).1 (omega arith) in
    ap (λ c. c ∷ lowered rest) low ∙ ap (λ l. digit n ∷ l) same

pub label_lower : (i : ℕ) → lowered (label_at i) ≡ label_at i
label_lower i = ap (λ l. 110 ∷ l)
    (digit_lower (i / 100000) (five_digits i)
    (digit_lower (i / 10000) (four_digits i)
    (digit_lower (i / 1000) (three_digits i)
    (digit_lower (i / 100) (two_digits i)
    (digit_lower (i / 10) (one_digit i)
    (digit_lower i [] refl))))))

-- ---- owners

third_from_the_right : (kind : NameKind) (label : Label) → get_or (reverse (owner_in kind (label ∷ made_example))) 2 [] ≡ label
third_from_the_right Host label = refl
third_from_the_right Above label = refl
third_from_the_right Cut label = refl
third_from_the_right Wild label = refl

pub owner_gives_number : (kind kind' : NameKind) (i j : ℕ) → i < 1000000 → j < 1000000 → owner_in kind (name_at i) ≡ owner_in kind' (name_at j) → i ≡ j
owner_gives_number kind kind' i j small small' same = label_gives_number i j small small'
    (sym (third_from_the_right kind (label_at i)) ∙ ap (λ (o : List Label). get_or (reverse o) 2 []) same ∙ third_from_the_right kind' (label_at j))

pub owner_is_no_apex : (kind : NameKind) (i : ℕ) → owner_in kind (name_at i) ≢ made_example
owner_is_no_apex Host i same = omega (arith, ap length same)
owner_is_no_apex Above i same = omega (arith, ap length same)
owner_is_no_apex Cut i same = omega (arith, ap length same)
owner_is_no_apex Wild i same = omega (arith, ap length same)
