-- The text of a hash: group by group, and its order.
use Rattle.std.proofs.Common.{◌≡◌, ℕ, zero, suc, ◌+◌, ◌-◌, ◌*◌, ◌/◌, ◌%◌, ◌^◌, ◌<◌, ◌≤◌, List, [], ◌∷◌, ◌++◌, rules, length, map, take, drop, refl, sym, ap, subst, ◌∙◌, arith, add-one, lit<, get_or}
use Rattle.std.proofs.Math.Nat.{div-div-eq-div-mul, pow-le-pow_right, pow-suc}
use Rattle.std.proofs.lemmas.Int.Digits.{number_lt}
use Rattle.std.proofs.lemmas.Bool.Decides.{nat_tests}
use Rattle.std.proofs.lemmas.Cmp.{tied_itself, nat_list_cmp_total}
use Rattle.std.proofs.lemmas.List.{places, map-append, length-map, length-take, length-drop, map_push, map_more}
use Rattle.std.proofs.lemmas.List.Elements.{All-from_recursion, recursion_from_All, All-push, All-nil, All-take, All-drop, All-append, All-same}
use Rattle.std.proofs.Math.Seq.{take-add}
use borrow.Rule.Slice.PartMut.{put_mid}
use Rattle.std.specs.Cmp.Lexicographic.{slice_cmp}
use Rattle.std.specs.FinMap.{slice_cmp-IsAntisymmetric, nat_cmp-IsAntisymmetric}
use Rattle.std.specs.Ordering.{nat_cmp}
use Rattle.std.specs.Char.{to_ascii_lowercase}
use Rattle.std.specs.List.{All, AllByRecursion}
use Rattle.std.specs.Int.Digits.{number_from_digits, AllBelowBase}
use Rattle.dname.specs.Name.{lowered}
use Rattle.nsec3_hash.specs.Base32Hex.{IsHash, digit_of, values_of, text_of, IsDigit, IsText}
use Rattle.nsec3_hash.proofs.NumeralLemmas.{number-append, number-cmp, number-values_of, values_of-append, length-values_of}

pub values_of-below : (count n : ℕ) → All (λ value. value < 32) (values_of count n)
unfolding values_of
values_of-below zero n = All-nil (λ value. value < 32)
values_of-below (suc count) n = All-push (λ value. value < 32) _ _ (values_of-below count (n / 32)) (omega arith)

-- five octets after others are eight digits after theirs
pub digits-append : (count : ℕ) (front group : List ℕ) → length group ≡ 5 → All (λ octet. octet < 256) group
    → map digit_of (values_of (count + 8) (number_from_digits 256 (front ++ group)))
    ≡ map digit_of (values_of count (number_from_digits 256 front)) ++ map digit_of (values_of 8 (number_from_digits 256 group))
digits-append count front group five below =
    let small : number_from_digits 256 group < 256 ^ length group = number_lt 256 group (recursion_from_All (λ octet. octet < 256) group below) in
    rw (number-append, five)
    (ap (map digit_of) (values_of-append count 8 (number_from_digits 256 front) (number_from_digits 256 group) (rw five at small)) ∙ map-append digit_of _ _)

-- the same for the next group of several
digits_more : (count : ℕ) (front group octets : List ℕ) → octets ≡ front ++ group → length group ≡ 5 → All (λ octet. octet < 256) group
    → map digit_of (values_of (8 * (count + 1)) (number_from_digits 256 octets))
    ≡ map digit_of (values_of (8 * count) (number_from_digits 256 front)) ++ map digit_of (values_of 8 (number_from_digits 256 group))
digits_more count front group octets parts five below =
    let more : 8 * (count + 1) ≡ 8 * count + 8 = omega arith in
    rw (more, parts) (digits-append (8 * count) front group five below)

take_group : (size count : ℕ) (xs : List ℕ) → take (size * (count + 1)) xs ≡ take (size * count) xs ++ take (size * count + size - size * count) (drop (size * count) xs)
take_group size count xs =
    let more : size * (count + 1) ≡ size * count + (size * count + size - size * count) = omega arith in
    rw more (take-add (size * count) (size * count + size - size * count) xs)

-- the text of a hash after one more group
pub written_more : (count number : ℕ) (hash written group text : List ℕ) → All (λ octet. octet < 256) hash → 5 * count + 5 ≤ length hash
    → written ≡ map digit_of (values_of (8 * count) (number_from_digits 256 (take (5 * count) hash)))
    → number ≡ number_from_digits 256 (take (5 * count + 5 - 5 * count) (drop (5 * count) hash))
    → group ≡ map digit_of (values_of 8 number) → text ≡ written ++ group
    → text ≡ map digit_of (values_of (8 * (count + 1)) (number_from_digits 256 (take (5 * (count + 1)) hash)))
written_more count number hash written group text below room so_far value digits parts =
    let octets : List ℕ = take (5 * count + 5 - 5 * count) (drop (5 * count) hash) in
    let five : length octets ≡ 5 = simp (length-take, length-drop) (omega arith) in
    let fits : All (λ octet. octet < 256) octets =
    All-take (λ octet. octet < 256) _ _ (All-drop (λ octet. octet < 256) _ hash below) in
    parts ∙ rw (so_far, digits, value) (sym (digits_more count (take (5 * count) hash) octets _ (take_group 5 count hash) five fits))

-- the hash of a text after one more group
pub read_more : (count number : ℕ) (text hash group octets : List ℕ)
    → map digit_of (values_of (8 * count) (number_from_digits 256 (take (5 * count) hash))) ≡ lowered (take (8 * count) text)
    → map digit_of (values_of 8 number) ≡ lowered (take (8 * count + 8 - 8 * count) (drop (8 * count) text))
    → length group ≡ 5 → All (λ octet. octet < 256) group → number_from_digits 256 group ≡ number
    → octets ≡ take (5 * count) hash ++ group
    → map digit_of (values_of (8 * (count + 1)) (number_from_digits 256 octets)) ≡ lowered (take (8 * (count + 1)) text)
read_more count number text hash group octets so_far digits five fits value parts =
    digits_more count (take (5 * count) hash) group octets parts five fits
    ∙ rw (so_far, value, digits) (sym (ap lowered (take_group 8 count text) ∙ map-append to_ascii_lowercase _ _))

-- a hash with one group of octets written over
pub IsHash-put : (count : ℕ) (hash group : List ℕ) → IsHash hash → count < 4 → length group ≡ 5 → All (λ octet. octet < 256) group
    → IsHash (put_mid (5 * count) (5 * count + 5 - 5 * count) hash group)
IsHash-put count hash group h short five fits =
    let P = λ (octet : ℕ). octet < 256 in
    let size = h.size in
    record {
      size = search (rules, places);
      octets = All-append P _ _ (All-take P _ hash h.octets)
          (All-append P _ _ fits (All-drop P (5 * count + 5 - 5 * count) (drop (5 * count) hash) (All-drop P (5 * count) hash h.octets)));
    }

-- the digits of a text after one more group
pub IsDigit_more : (count : ℕ) (text : List ℕ) → All (λ octet. IsDigit (to_ascii_lowercase octet)) (take (8 * count) text)
    → All (λ octet. IsDigit (to_ascii_lowercase octet)) (take (8 * count + 8 - 8 * count) (drop (8 * count) text))
    → All (λ octet. IsDigit (to_ascii_lowercase octet)) (take (8 * (count + 1)) text)
IsDigit_more count text so_far group =
    let P = λ (octet : ℕ). IsDigit (to_ascii_lowercase octet) in
    All-same P _ _ (take_group 8 count text) (All-append P _ _ so_far group)

-- the values of eight digits, each by one quotient
pub values_of-eight : (n : ℕ) → values_of 8 n
    ≡ n / 2 ^ 35 % 32 ∷ n / 2 ^ 30 % 32 ∷ n / 2 ^ 25 % 32 ∷ n / 2 ^ 20 % 32 ∷ n / 2 ^ 15 % 32 ∷ n / 2 ^ 10 % 32 ∷ n / 2 ^ 5 % 32 ∷ n % 32 ∷ []
unfolding values_of
values_of-eight n = simp div-div-eq-div-mul

-- one digit after others
pub values_of-push : (count n value : ℕ) → value < 32 → values_of (count + 1) (n * 32 + value) ≡ values_of count n ++ value ∷ []
unfolding values_of
values_of-push count n value small =
    let high : (n * 32 + value) / 32 ≡ n = omega arith in
    let low : (n * 32 + value) % 32 ≡ value = omega arith in
    rw (add-one, high, low) refl

pub digit_fits : (index n value : ℕ) → index < 8 → n < 32 ^ index → value < 32 → n * 32 + value < 2 ^ 64
digit_fits index n value short small digit =
    let most : 32 ^ index ≤ 32 ^ 7 = pow-le-pow_right {n = 32} (lit< tt) {i = index} {j = 7} (omega arith) in
    omega arith

pub digit_room : (index n value : ℕ) → n < 32 ^ index → value < 32 → n * 32 + value < 32 ^ (index + 1)
digit_room index n value small digit = rw (add-one, pow-suc) (omega arith)

-- the number of digits after one more
pub digit_read : (index n value : ℕ) (digits : List ℕ) → index < length digits → value < 32
    → digit_of value ≡ to_ascii_lowercase (get_or digits index 0)
    → map digit_of (values_of index n) ≡ lowered (take index digits)
    → map digit_of (values_of (index + 1) (n * 32 + value)) ≡ lowered (take (index + 1) digits)
digit_read index n value digits short small digit so_far =
    rw (values_of-push index n value small, map_push, map_more to_ascii_lowercase digits index 0 short, so_far, digit) refl

-- ---- order

digit_cmp : (x y : ℕ) → x < 32 → y < 32 → nat_cmp (digit_of x) (digit_of y) ≡ nat_cmp x y
digit_cmp x y p q = grind (arith, nat_tests)

digits_cmp : (xs ys : List ℕ) → AllBelowBase 32 xs → AllBelowBase 32 ys
    → slice_cmp nat_cmp (map digit_of xs) (map digit_of ys) ≡ slice_cmp nat_cmp xs ys
digits_cmp [] [] p q = refl
digits_cmp [] (y ∷ ys) p q = refl
digits_cmp (x ∷ xs) [] p q = refl
digits_cmp (x ∷ xs) (y ∷ ys) p q = rw (digit_cmp x y p.0 q.0, digits_cmp xs ys p.1 q.1) refl

octets_below : (hash : List ℕ) → IsHash hash → AllBelowBase 256 hash
octets_below hash h = recursion_from_All (λ octet. octet < 256) hash h.octets

values_below : (count n : ℕ) → AllBelowBase 32 (values_of count n)
values_below count n = recursion_from_All (λ value. value < 32) (values_of count n) (values_of-below count n)

pub hash_number : (hash : List ℕ) → IsHash hash → number_from_digits 256 hash < 32 ^ 32
hash_number hash h = rw h.size at (number_lt 256 hash (recursion_from_All (λ octet. octet < 256) hash h.octets))

pub text_of-cmp : (a b : List ℕ) → IsHash a → IsHash b → slice_cmp nat_cmp (text_of a) (text_of b) ≡ slice_cmp nat_cmp a b
text_of-cmp a b ha hb =
    let p = values_below 32 (number_from_digits 256 a) in
    let q = values_below 32 (number_from_digits 256 b) in
    let lengths = length-values_of 32 (number_from_digits 256 a) ∙ sym (length-values_of 32 (number_from_digits 256 b)) in
    let octets = number-cmp 256 0 a b (ha.size ∙ sym hb.size) (octets_below a ha) (octets_below b hb) in
    digits_cmp _ _ p q ∙ number-cmp 32 0 _ _ lengths p q
    ∙ rw (number-values_of 32 (number_from_digits 256 a) (hash_number a ha), number-values_of 32 (number_from_digits 256 b) (hash_number b hb)) (sym octets)

-- a text has one hash
pub same_from_text_of : (a b : List ℕ) → IsHash a → IsHash b → text_of a ≡ text_of b → a ≡ b
same_from_text_of a b ha hb same =
    slice_cmp-IsAntisymmetric nat_cmp-IsAntisymmetric a b
    (sym (text_of-cmp a b ha hb) ∙ rw same (tied_itself nat_list_cmp_total (text_of b)))

-- ---- a text's digits

IsDigit-digit_of : (value : ℕ) → value < 32 → IsDigit (digit_of value)
IsDigit-digit_of value h = grind (arith, nat_tests)

lowered-digit_of : (value : ℕ) → value < 32 → to_ascii_lowercase (digit_of value) ≡ digit_of value
lowered-digit_of value h = grind (arith, nat_tests)

lowered-digits : (values : List ℕ) → AllBelowBase 32 values → lowered (map digit_of values) ≡ map digit_of values
lowered-digits [] h = refl
lowered-digits (value ∷ rest) h = rw (lowered-digit_of value h.0, lowered-digits rest h.1) refl

digits-IsDigit : (values : List ℕ) → AllBelowBase 32 values → AllByRecursion IsDigit (map digit_of values)
digits-IsDigit [] h = tt
digits-IsDigit (value ∷ rest) h = (IsDigit-digit_of value h.0, digits-IsDigit rest h.1)

digits_from_lowered : (text : List ℕ) → AllByRecursion IsDigit (lowered text) → AllByRecursion (λ octet. IsDigit (to_ascii_lowercase octet)) text
digits_from_lowered [] h = tt
digits_from_lowered (octet ∷ rest) h = (h.0, digits_from_lowered rest h.1)

pub lowered-text_of : (hash : List ℕ) → lowered (text_of hash) ≡ text_of hash
lowered-text_of hash = lowered-digits _ (values_below 32 (number_from_digits 256 hash))

pub IsText-from : (hash text : List ℕ) → text_of hash ≡ lowered text → IsText text
IsText-from hash text same =
    let size : length (lowered text) ≡ 32 = rw (← same) (length-map _ digit_of ∙ length-values_of 32 _) in
    let digits = digits-IsDigit _ (values_below 32 (number_from_digits 256 hash)) in
    record {
      size = sym (length-map text to_ascii_lowercase) ∙ size;
      digits = All-from_recursion (λ octet. IsDigit (to_ascii_lowercase octet)) text
          (digits_from_lowered text (subst (AllByRecursion IsDigit) same digits));
    }
