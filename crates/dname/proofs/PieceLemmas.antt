-- Strings of octets compared piece by piece, each piece as the number that it spells.
use Rattle.std.proofs.Common.{◌≡◌, ◌≢◌, ℕ, ◌+◌, ◌-◌, ◌*◌, ◌<◌, ◌≤◌, suc, Bool, min, List, [], ◌∷◌, ◌++◌, length, take, drop, get_or, refl, sym, ◌∙◌, ap, arith, Fits, w8}
use Rattle.std.specs.declared.cmp.Ordering.{Ordering}
use Rattle.std.specs.declared.cmp.Ordering.TheVariants.{Less, Equal, Greater}
use Rattle.std.specs.Ordering.{nat_cmp, ordering_then, is_eq}
use Rattle.std.specs.Cmp.{nat_cmp_is}
use Rattle.std.specs.Cmp.Lexicographic.{slice_cmp, pointwise}
use Rattle.std.specs.FinMap.{slice_cmp-IsAntisymmetric, nat_cmp-IsAntisymmetric}
use Rattle.std.specs.List.{All}
use Rattle.std.specs.Bool.{Decides}
use Rattle.std.specs.Prelude.{nat_eq}
use Rattle.std.proofs.lemmas.Slice.Eq.{bytes_eq-Decides}
use Rattle.std.proofs.lemmas.Map.Text.{is_eq-slice_cmp}
use Rattle.std.specs.Slice.Scan.{big_endian}
use Rattle.std.proofs.Math.Seq.{drop-cons, take-add}
use Rattle.std.proofs.lemmas.Bool.Decides.{nat_tests}
use Rattle.std.proofs.lemmas.Cmp.{ranked, by_ranked, tied_itself, nat_cmp_total, nat_list_cmp_total}
use Rattle.std.proofs.lemmas.List.{length-take-le, length-drop, take-append-drop, take-take}
use Rattle.std.proofs.lemmas.List.Elements.{All-head, All-tail, All-take, All-drop}
use Rattle.dname.proofs.OrderLemmas.{slice_cmp-append}
use Rattle.dname.proofs.WireLemmas.{octets_small}

abbrev pub Small : ℕ → Type 0
Small octet = octet < 256

below : (x y : ℕ) → x < y → nat_cmp x y ≡ Less
below x y less = sym (nat_cmp_is x y Less less)

above : (x y : ℕ) → y < x → nat_cmp x y ≡ Greater
above x y more = sym (nat_cmp_is x y Greater more)

-- ---- strings of one length compare as the numbers that they spell

rises : (a b : ℕ) (us vs : List ℕ) → length us ≡ length vs → All Small us → a < b → big_endian a us < big_endian b vs
rises a b [] [] long small less = less
rises a b [] (v ∷ vs) long small less = absurd (omega arith)
rises a b (u ∷ us) [] long small less = absurd (omega arith)
rises a b (u ∷ us) (v ∷ vs) long small less =
    rises (a * 256 + u) (b * 256 + v) us vs (omega arith) (All-tail Small u us small) (omega (arith, All-head Small u us small))

pub spelled_order : (a : ℕ) (us vs : List ℕ) → length us ≡ length vs → All Small us → All Small vs → slice_cmp nat_cmp us vs ≡ nat_cmp (big_endian a us) (big_endian a vs)
spelled_order a [] [] long small small' = sym (tied_itself nat_cmp_total a)
spelled_order a [] (v ∷ vs) long small small' = absurd (omega arith)
spelled_order a (u ∷ us) [] long small small' = absurd (omega arith)
spelled_order a (u ∷ us) (v ∷ vs) long small small' =
    let long' : length us ≡ length vs = omega arith in
    let rest = All-tail Small u us small in
    let rest' = All-tail Small v vs small' in
    let first = λ (o : Ordering) (is : nat_cmp u v ≡ o). ap (λ r. ordering_then r (slice_cmp nat_cmp us vs)) is in
    by_ranked (u < v) (u ≡ v) (v < u) (nat_cmp u v) (ranked u v (nat_cmp u v) refl)
    (λ is less. first Less is ∙ sym (below _ _ (rises (a * 256 + u) (a * 256 + v) us vs long' rest (omega (arith, less)))))
    (λ is same. first Equal is ∙ spelled_order (a * 256 + u) us vs long' rest rest' ∙ ap (λ w. nat_cmp (big_endian (a * 256 + u) us) (big_endian (a * 256 + w) vs)) same)
    (λ is more. first Greater is ∙ sym (above _ _ (rises (a * 256 + v) (a * 256 + u) vs us (sym long') rest' (omega (arith, more)))))

-- ---- a piece of each, behind octets that are the same

pub fewer : (j i : ℕ) (xs ys : List ℕ) → j ≤ i → take i xs ≡ take i ys → take j xs ≡ take j ys
fewer j i xs ys less same = sym (take-take j i xs less) ∙ ap (take j) same ∙ take-take j i ys less

decided : (x y : ℕ) (r : Ordering) → x ≢ y → ordering_then (nat_cmp x y) r ≡ nat_cmp x y
decided x y r not = by_ranked (x < y) (x ≡ y) (y < x) (nat_cmp x y) (ranked x y (nat_cmp x y) refl)
    (λ is less. ap (λ o. ordering_then o r) is ∙ sym is)
    (λ is same. absurd (not same))
    (λ is more. ap (λ o. ordering_then o r) is ∙ sym is)

past : (j : ℕ) (xs ys : List ℕ) → j ≤ length xs → j ≤ length ys → take j xs ≡ take j ys → slice_cmp nat_cmp xs ys ≡ slice_cmp nat_cmp (drop j xs) (drop j ys)
past j xs ys in_first in_second same =
    (λ i. slice_cmp nat_cmp (sym (take-append-drop j xs) i) (sym (take-append-drop j ys) i))
    ∙ slice_cmp-append nat_cmp (take j xs) (take j ys) (drop j xs) (drop j ys) (ap length same)
    ∙ ap (λ o. ordering_then o (slice_cmp nat_cmp (drop j xs) (drop j ys)))
    (ap (slice_cmp nat_cmp (take j xs)) (sym same) ∙ tied_itself nat_list_cmp_total (take j xs))

abbrev AreOctets : List ℕ → Type 0
AreOctets xs = (i : ℕ) → Fits w8 (get_or xs i 0)

piece_order : (xs ys : List ℕ) (j n : ℕ) → j + n ≤ length xs → j + n ≤ length ys → All Small xs → All Small ys → slice_cmp nat_cmp (take n (drop j xs)) (take n (drop j ys)) ≡ nat_cmp (big_endian 0 (take n (drop j xs))) (big_endian 0 (take n (drop j ys)))
piece_order xs ys j n in_first in_second small small' =
    spelled_order 0 (take n (drop j xs)) (take n (drop j ys))
    (length-take-le n (drop j xs) (omega (arith, length-drop j xs)) ∙ sym (length-take-le n (drop j ys) (omega (arith, length-drop j ys))))
    (All-take Small n (drop j xs) (All-drop Small j xs small)) (All-take Small n (drop j ys) (All-drop Small j ys small'))

-- where the numbers differ, they decide
pub piece_apart : (xs ys : List ℕ) (j n x y : ℕ) → AreOctets xs → AreOctets ys → j + n ≤ length xs → j + n ≤ length ys → take j xs ≡ take j ys → x ≡ big_endian 0 (take n (drop j xs)) → y ≡ big_endian 0 (take n (drop j ys)) → x ≢ y → nat_cmp x y ≡ slice_cmp nat_cmp xs ys
piece_apart xs ys j n x y fits fits' in_first in_second same is is' not =
    let p = take n (drop j xs) in
    let q = take n (drop j ys) in
    let rest = slice_cmp nat_cmp (drop n (drop j xs)) (drop n (drop j ys)) in
    let long : length p ≡ length q = length-take-le n (drop j xs) (omega (arith, length-drop j xs)) ∙ sym (length-take-le n (drop j ys) (omega (arith, length-drop j ys))) in
    let order : slice_cmp nat_cmp p q ≡ nat_cmp x y = piece_order xs ys j n in_first in_second (octets_small xs fits) (octets_small ys fits') ∙ (λ i. nat_cmp (sym is i) (sym is' i)) in
    sym (past j xs ys (omega arith) (omega arith) same
    ∙ (λ i. slice_cmp nat_cmp (sym (take-append-drop n (drop j xs)) i) (sym (take-append-drop n (drop j ys)) i))
    ∙ slice_cmp-append nat_cmp p q (drop n (drop j xs)) (drop n (drop j ys)) long
    ∙ ap (λ o. ordering_then o rest) order
    ∙ decided x y rest not)

-- and where they are the same, so are the octets
pub piece_alike : (xs ys : List ℕ) (j n x y : ℕ) → AreOctets xs → AreOctets ys → j + n ≤ length xs → j + n ≤ length ys → take j xs ≡ take j ys → x ≡ big_endian 0 (take n (drop j xs)) → y ≡ big_endian 0 (take n (drop j ys)) → x ≡ y → take (j + n) xs ≡ take (j + n) ys
piece_alike xs ys j n x y fits fits' in_first in_second same is is' level =
    let tie : slice_cmp nat_cmp (take n (drop j xs)) (take n (drop j ys)) ≡ Equal =
    piece_order xs ys j n in_first in_second (octets_small xs fits) (octets_small ys fits') ∙ (λ i. nat_cmp (sym is i) (sym is' i)) ∙ ap (nat_cmp x) (sym level) ∙ tied_itself nat_cmp_total x in
    let piece = slice_cmp-IsAntisymmetric nat_cmp-IsAntisymmetric (take n (drop j xs)) (take n (drop j ys)) tie in
    take-add j n xs ∙ (λ i. same i ++ piece i) ∙ sym (take-add j n ys)

-- one octet of each
pub octet_apart : (xs ys : List ℕ) (j : ℕ) → j < length xs → j < length ys → take j xs ≡ take j ys → get_or xs j 0 ≢ get_or ys j 0 → nat_cmp (get_or xs j 0) (get_or ys j 0) ≡ slice_cmp nat_cmp xs ys
octet_apart xs ys j in_first in_second same not =
    sym (past j xs ys (omega arith) (omega arith) same
    ∙ (λ i. slice_cmp nat_cmp (drop-cons xs j 0 in_first i) (drop-cons ys j 0 in_second i))
    ∙ decided (get_or xs j 0) (get_or ys j 0) (slice_cmp nat_cmp (drop (suc j) xs) (drop (suc j) ys)) not)

-- ---- as many as the shorter one has are the same: then the lengths decide

rest_cmp : (us vs : List ℕ) (a b : ℕ) → length us ≡ a - b → length vs ≡ b - a → slice_cmp nat_cmp us vs ≡ nat_cmp a b
rest_cmp [] [] a b long long' = grind (arith, nat_tests)
rest_cmp [] (v ∷ vs) a b long long' = grind (arith, nat_tests)
rest_cmp (u ∷ us) [] a b long long' = grind (arith, nat_tests)
rest_cmp (u ∷ us) (v ∷ vs) a b long long' = absurd (omega arith)

pub lengths_decide : (xs ys : List ℕ) (n : ℕ) → n ≡ min (length xs) (length ys) → take n xs ≡ take n ys → nat_cmp (length xs) (length ys) ≡ slice_cmp nat_cmp xs ys
lengths_decide xs ys n least same =
    sym (past n xs ys (omega arith) (omega arith) same
    ∙ rest_cmp (drop n xs) (drop n ys) (length xs) (length ys) (omega (arith, length-drop n xs)) (omega (arith, length-drop n ys)))

-- a tie says whether they are the same
pub tie_is : (xs ys : List ℕ) (o : Ordering) (b : Bool) → o ≡ slice_cmp nat_cmp xs ys → b ≡ is_eq o → b ≡ pointwise nat_eq xs ys
tie_is xs ys o b is tie = tie ∙ ap is_eq is ∙ is_eq-slice_cmp xs ys

pub eq_decides : (xs ys : List ℕ) (b : Bool) → b ≡ pointwise nat_eq xs ys → Decides b (xs ≡ ys)
eq_decides xs ys b is = (λ yes. (bytes_eq-Decides xs ys).0 (sym is ∙ yes), λ level. is ∙ (bytes_eq-Decides xs ys).1 level)
