-- Numbers and their digits: a numeral in two parts, and the order of numerals of one length.
use Rattle.std.proofs.Common.{◌≡◌, ℕ, zero, suc, ◌+◌, ◌*◌, ◌/◌, ◌%◌, ◌^◌, ◌<◌, ◌≤◌, List, [], ◌∷◌, ◌++◌, length, refl, sym, ◌∙◌, arith, add-zero, add-one, add-suc}
use Rattle.std.proofs.Math.Nat.{mul-le-mul_right, pow-suc, pow-zero}
use Rattle.std.proofs.lemmas.Int.Digits.{number_after_append, number_push}
use Rattle.std.proofs.lemmas.List.{append-nil, append_assoc, length_push}
use Rattle.std.proofs.lemmas.Cmp.{by_ranked, ranked}
use Rattle.std.specs.Cmp.{nat_cmp_is}
use Rattle.std.specs.Cmp.Lexicographic.{slice_cmp}
use Rattle.std.specs.Ordering.{nat_cmp}
use Rattle.std.specs.Int.Digits.{number_from_digits, number_from_digits_after, AllBelowBase}
use Rattle.std.specs.declared.cmp.Ordering.TheVariants.{Less, Equal, Greater}
use Rattle.nsec3_hash.specs.Base32Hex.{values_of}

-- ---- a numeral after a number

pub number_after_is : (b n : ℕ) (xs : List ℕ) → number_from_digits_after b n xs ≡ n * b ^ length xs + number_from_digits b xs
number_after_is b n [] = rw pow-zero (omega arith)
number_after_is b n (x ∷ xs) = rw pow-suc (omega (arith, number_after_is b (n * b + x) xs, number_after_is b (0 * b + x) xs))

pub number-append : (b : ℕ) (xs ys : List ℕ) → number_from_digits b (xs ++ ys) ≡ number_from_digits b xs * b ^ length ys + number_from_digits b ys
number-append b xs ys = number_after_append b 0 xs ys ∙ number_after_is b (number_from_digits b xs) ys

-- ---- the values of a number

pub length-values_of : (count n : ℕ) → length (values_of count n) ≡ count
unfolding values_of
length-values_of zero n = refl
length-values_of (suc count) n = length_push _ _ ∙ rw (length-values_of count (n / 32), add-one) refl

pub values_of-append : (c d n m : ℕ) → m < 32 ^ d → values_of (c + d) (n * 32 ^ d + m) ≡ values_of c n ++ values_of d m
unfolding values_of
values_of-append c zero n m h =
    let none : m ≡ 0 = omega arith in
    let same : n * 1 + m ≡ n = omega arith in
    rw (same, add-zero) (sym (append-nil _))
values_of-append c (suc d) n m h =
    let power : 32 ^ suc d ≡ 32 ^ d * 32 = pow-suc 32 d in
    let product : n * 32 ^ suc d ≡ n * 32 ^ d * 32 = rw (pow-suc 32 d) (omega arith) in
    let high : (n * 32 ^ suc d + m) / 32 ≡ n * 32 ^ d + m / 32 = omega arith in
    let low : (n * 32 ^ suc d + m) % 32 ≡ m % 32 = omega arith in
    rw (add-suc, high, low, values_of-append c d n (m / 32) (omega arith), append_assoc) refl

pub number-values_of : (count n : ℕ) → n < 32 ^ count → number_from_digits 32 (values_of count n) ≡ n
unfolding values_of
number-values_of zero n h = omega arith
number-values_of (suc count) n h =
    let power : 32 ^ suc count ≡ 32 ^ count * 32 = pow-suc 32 count in
    rw (number_push, number-values_of count (n / 32) (omega arith)) (omega arith)

-- ---- the order of numerals

pub number_after-below : (b m n : ℕ) (xs ys : List ℕ) → length xs ≡ length ys → AllBelowBase b xs → m < n
    → number_from_digits_after b m xs < number_from_digits_after b n ys
number_after-below b m n [] [] same below h = h
number_after-below b m n (x ∷ xs) (y ∷ ys) same below h =
    let more : (m + 1) * b ≤ n * b = mul-le-mul_right b (omega arith) in
    number_after-below b (m * b + x) (n * b + y) xs ys (omega arith) below.1 (omega (arith, below.0))
number_after-below b m n [] (y ∷ ys) same below h = cc
number_after-below b m n (x ∷ xs) [] same below h = cc

pub number-cmp : (b n : ℕ) (xs ys : List ℕ) → length xs ≡ length ys → AllBelowBase b xs → AllBelowBase b ys
    → slice_cmp nat_cmp xs ys ≡ nat_cmp (number_from_digits_after b n xs) (number_from_digits_after b n ys)
number-cmp b n [] [] same p q = nat_cmp_is n n Equal refl
number-cmp b n (x ∷ xs) (y ∷ ys) same p q =
    let lengths : length xs ≡ length ys = omega arith in
    by_ranked _ _ _ (nat_cmp x y) (ranked x y (nat_cmp x y) refl)
    (λ e h. rw e (nat_cmp_is _ _ Less (number_after-below b _ _ xs ys lengths p.1 (omega arith))))
    (λ e h. rw (e, h) (number-cmp b (n * b + y) xs ys lengths p.1 q.1))
    (λ e h. rw e (nat_cmp_is _ _ Greater (number_after-below b _ _ ys xs (sym lengths) q.1 (omega arith))))
number-cmp b n [] (y ∷ ys) same p q = cc
number-cmp b n (x ∷ xs) [] same p q = cc
