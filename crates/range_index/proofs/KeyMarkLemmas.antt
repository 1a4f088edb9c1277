-- Marks never fall in the order of keys.
use Rattle.std.proofs.Common.{◌≡◌, ℕ, ◌+◌, ◌*◌, ◌<◌, ◌≤◌, zero, suc, Bool, true, false, true≢false, nat_lt, List, [], ◌∷◌, ◌++◌, length, take, reverse, refl, sym, ◌∙◌, ap, subst, arith}
use Rattle.std.specs.declared.cmp.Ordering.{Ordering}
use Rattle.std.specs.declared.cmp.Ordering.TheVariants.{Less, Equal, Greater}
use Rattle.std.specs.Cmp.Lexicographic.{slice_cmp}
use Rattle.std.specs.FinMap.{slice_cmp-IsAntisymmetric, nat_cmp-IsAntisymmetric}
use Rattle.std.specs.List.{All}
use Rattle.std.specs.Ordering.{nat_cmp, is_lt, ordering_then}
use Rattle.std.specs.Slice.Scan.{big_endian}
use Rattle.std.proofs.lemmas.Bool.Decides.{nat_tests}
use Rattle.std.proofs.lemmas.Cmp.{nat_list_cmp_total, ranked, by_ranked, tied_itself}
use Rattle.std.proofs.lemmas.Grind.{common_steps}
use Rattle.std.proofs.lemmas.List.{reverse-append, reverse-reverse}
use Rattle.std.proofs.lemmas.List.Elements.{All-nil, All-cons, All-append, All-head, All-tail}
use Rattle.dname.specs.Name.{Label, IsName, IsUnder, label_cmp, canonical_cmp}
use Rattle.dname.specs.Order.{canonical_equal}
use Rattle.dname.specs.Digest.{padded, first_label, digest_below}
use Rattle.dname.proofs.DigestLemmas.{padded_long, past_apex}
use Rattle.range_index.specs.Marks.{topped, spelled, hash_mark, by_label, mark_behind, name_mark}

-- ---- numbers that lists spell

topped_rises : (n a b : ℕ) → a ≤ b → topped n a ≤ topped n b
topped_rises zero a b le = le
topped_rises (suc n) a b le = topped_rises n (a * 256 + 255) (b * 256 + 255) (omega arith)

zeros_rise : (n a b : ℕ) → a ≤ b → spelled n a [] ≤ spelled n b []
zeros_rise zero a b le = le
zeros_rise (suc n) a b le = zeros_rise n (a * 256) (b * 256) (omega arith)

beyond : (n a b : ℕ) → a < b → topped n a < spelled n b []
beyond zero a b less = less
beyond (suc n) a b less = beyond n (a * 256 + 255) (b * 256) (omega arith)

octet_is : (u : ℕ) → nat_lt u 256 ≡ true → u < 256
octet_is u is = grind (arith, nat_tests, common_steps)

is_octet : (u : ℕ) → u < 256 → nat_lt u 256 ≡ true
is_octet u is = grind (arith, nat_tests, common_steps)

up_to : (a b c : ℕ) → a ≤ b → b ≤ c → a ≤ c
up_to a b c first second = omega arith

bounded : (n a : ℕ) (us : List ℕ) → spelled n a us ≤ topped n a
bounded zero a us = omega arith
bounded (suc n) a [] = up_to _ _ _ (bounded n (a * 256) []) (topped_rises n (a * 256) (a * 256 + 255) (omega arith))
bounded (suc n) a (u ∷ us) = by (nat_lt u 256) refl (bounded n (a * 256 + u) us)
  where
    by : (b : Bool) → nat_lt u 256 ≡ b → spelled n (a * 256 + u) us ≤ topped n (a * 256 + u) → spelled (suc n) a (u ∷ us) ≤ topped (suc n) a
    by true is rest = rw is (up_to _ _ _ rest (topped_rises n (a * 256 + u) (a * 256 + 255) (omega (arith, octet_is u is))))
    by false is rest = rw is (omega arith)

floor : (n b : ℕ) (us : List ℕ) → spelled n b [] ≤ spelled n b us
floor zero b us = omega arith
floor (suc n) b [] = omega arith
floor (suc n) b (u ∷ us) = by (nat_lt u 256) refl (floor n (b * 256 + u) us)
  where
    by : (t : Bool) → nat_lt u 256 ≡ t → spelled n (b * 256 + u) [] ≤ spelled n (b * 256 + u) us → spelled (suc n) b [] ≤ spelled (suc n) b (u ∷ us)
    by true is rest = rw is (up_to _ _ _ (zeros_rise n (b * 256) (b * 256 + u) (omega arith)) rest)
    by false is rest = rw is (bounded (suc n) b [])

less_over : (a b c d : ℕ) → a ≤ b → b < c → c ≤ d → a < d
less_over a b c d first second third = omega arith

rises : (n a b : ℕ) (us vs : List ℕ) → a < b → spelled n a us < spelled n b vs
rises n a b us vs less = less_over _ _ _ _ (bounded n a us) (beyond n a b less) (floor n b vs)

not_both : (a b : ℕ) → a < b → b ≤ a → ⊥
not_both a b less le = omega arith

-- of two lists the one with the lesser number goes first
pub spelled_less : (n a : ℕ) (us vs : List ℕ) → spelled n a us < spelled n a vs → label_cmp us vs ≡ Less
spelled_less zero a us vs less = absurd (omega arith)
spelled_less (suc n) a [] [] less = absurd (omega arith)
spelled_less (suc n) a [] (v ∷ vs) less = refl
spelled_less (suc n) a (u ∷ us) [] less = absurd (not_both _ _ less (floor (suc n) a (u ∷ us)))
spelled_less (suc n) a (u ∷ us) (v ∷ vs) less =
    by_ranked (u < v) (u ≡ v) (v < u) (nat_cmp u v) (ranked u v (nat_cmp u v) refl)
    (λ is lt. first Less is)
    (λ is same. first Equal is ∙ alike (nat_lt u 256) refl (subst (λ w. spelled (suc n) a (u ∷ us) < spelled (suc n) a (w ∷ vs)) (sym same) less) (spelled_less n (a * 256 + u) us vs))
    (λ is gt. absurd (back (nat_lt u 256) refl gt))
  where
    first : (o : Ordering) → nat_cmp u v ≡ o → label_cmp (u ∷ us) (v ∷ vs) ≡ ordering_then o (label_cmp us vs)
    first o is = ap (λ r. ordering_then r (label_cmp us vs)) is

    alike : (b : Bool) → nat_lt u 256 ≡ b → spelled (suc n) a (u ∷ us) < spelled (suc n) a (u ∷ vs) → (spelled n (a * 256 + u) us < spelled n (a * 256 + u) vs → label_cmp us vs ≡ Less) → label_cmp us vs ≡ Less
    alike true is less' rest = rest (rw is at less')
    alike false is less' rest = absurd (not_both _ _ (rw is at less') (omega arith))

    back : (b : Bool) → nat_lt u 256 ≡ b → v < u → ⊥
    back true is gt =
        let small : nat_lt v 256 ≡ true = is_octet v (omega (arith, gt, octet_is u is)) in
        let turned = rises n (a * 256 + v) (a * 256 + u) vs us (omega (arith, gt)) in
        not_both _ _ (rw (is, small) at less) (omega (arith, turned))
    back false is gt = not_both _ _ (rw is at less) (bounded (suc n) a (v ∷ vs))

pub hashes_rise : (one other : List ℕ) → hash_mark one < hash_mark other → slice_cmp nat_cmp one other ≡ Less
hashes_rise one other less = spelled_less 8 0 one other less

-- of octets it is the number that they spell
padded_is : (n a : ℕ) (us : List ℕ) → All (λ octet. octet < 256) us → padded n a us ≡ spelled n a us
padded_is zero a us small = refl
padded_is (suc n) a [] small = padded_is n (a * 256) [] small
padded_is (suc n) a (u ∷ us) small =
    let here : nat_lt u 256 ≡ true = is_octet u (All-head (λ octet. octet < 256) u us small) in
    rw here (padded_is n (a * 256 + u) us (All-tail (λ octet. octet < 256) u us small))

-- ---- labels from the right

level : Label → Label → Type 0
level x y = x ≡ y

behind_bounded : (front labels : List Label) → mark_behind front labels ≤ topped 8 0
behind_bounded [] [] = omega arith
behind_bounded [] (label ∷ labels) = bounded 8 0 label
behind_bounded (label ∷ front) [] = omega arith
behind_bounded (label ∷ front) (other ∷ labels) = by (label_cmp other label) (behind_bounded front labels)
  where
    by : (o : Ordering) → mark_behind front labels ≤ topped 8 0 → by_label o (mark_behind front labels) ≤ topped 8 0
    by Less rest = omega arith
    by Equal rest = rest
    by Greater rest = omega arith

none_below : (n : ℕ) → n < 0 → ⊥
none_below n less = omega arith

less_then : (r s o : Ordering) → r ≡ Less → ordering_then r o ≡ Less
less_then r s o is = ap (λ q. ordering_then q o) is

across : (x y a : Label) → label_cmp x a ≡ Less → label_cmp y a ≡ Equal → label_cmp x y ≡ Less
across x y a before at = grind (arith, common_steps, nat_list_cmp_total)

past : (x y a : Label) → label_cmp x a ≡ Less → label_cmp y a ≡ Greater → label_cmp x y ≡ Less
past x y a before after = grind (arith, common_steps, nat_list_cmp_total)

after_it : (x y a : Label) → label_cmp x a ≡ Equal → label_cmp y a ≡ Greater → label_cmp x y ≡ Less
after_it x y a at after = grind (arith, common_steps, nat_list_cmp_total)

both_at : (x y a : Label) → label_cmp x a ≡ Equal → label_cmp y a ≡ Equal → label_cmp x y ≡ Equal
both_at x y a at at' = grind (arith, common_steps, nat_list_cmp_total)

pub behind_less : (front xs ys : List Label) → mark_behind front xs < mark_behind front ys → slice_cmp label_cmp xs ys ≡ Less
behind_less [] [] [] less = absurd (omega arith)
behind_less [] [] (y ∷ ys) less = refl
behind_less [] (x ∷ xs) [] less = absurd (none_below _ less)
behind_less [] (x ∷ xs) (y ∷ ys) less = ap (λ o. ordering_then o (slice_cmp label_cmp xs ys)) (spelled_less 8 0 x y less)
behind_less (a ∷ front) [] [] less = absurd (omega arith)
behind_less (a ∷ front) [] (y ∷ ys) less = refl
behind_less (a ∷ front) (x ∷ xs) [] less = absurd (none_below _ less)
behind_less (a ∷ front) (x ∷ xs) (y ∷ ys) less = by (label_cmp x a) (label_cmp y a) refl refl less (behind_less front xs ys)
  where
    first : (o : Ordering) → label_cmp x y ≡ o → slice_cmp label_cmp (x ∷ xs) (y ∷ ys) ≡ ordering_then o (slice_cmp label_cmp xs ys)
    first o is = ap (λ q. ordering_then q (slice_cmp label_cmp xs ys)) is

    by : (r s : Ordering) → label_cmp x a ≡ r → label_cmp y a ≡ s → by_label r (mark_behind front xs) < by_label s (mark_behind front ys) → (mark_behind front xs < mark_behind front ys → slice_cmp label_cmp xs ys ≡ Less) → slice_cmp label_cmp (x ∷ xs) (y ∷ ys) ≡ Less
    by Less Less is are less' rest = absurd (omega arith)
    by Less Equal is are less' rest = first Less (across x y a is are)
    by Less Greater is are less' rest = first Less (past x y a is are)
    by Equal Less is are less' rest = absurd (none_below _ less')
    by Equal Equal is are less' rest = first Equal (both_at x y a is are) ∙ rest less'
    by Equal Greater is are less' rest = first Less (after_it x y a is are)
    by Greater Less is are less' rest = absurd (none_below _ less')
    by Greater Equal is are less' rest = absurd (not_both _ _ less' (behind_bounded front ys))
    by Greater Greater is are less' rest = absurd (omega arith)

pub names_rise : (apex one other : List Label) → name_mark apex one < name_mark apex other → canonical_cmp one other ≡ Less
names_rise apex one other less = behind_less (reverse apex) (reverse one) (reverse other) less

-- ---- as the code makes them

behind_level : (front rest : List Label) → mark_behind front (front ++ rest) ≡ spelled 8 0 (first_label rest)
behind_level [] [] = refl
behind_level [] (label ∷ rest) = refl
behind_level (label ∷ front) rest = ap (λ o. by_label o (mark_behind front (front ++ rest))) (tied_itself nat_list_cmp_total label) ∙ behind_level front rest

-- labels that aren't in front: all before, or all after
behind_apart : (front labels : List Label) → ((rest : List Label) → labels ≡ front ++ rest → ⊥) → mark_behind front labels ≡ by_label (slice_cmp label_cmp labels front) (topped 8 0)
behind_apart [] labels apart = absurd (apart labels refl)
behind_apart (label ∷ front) [] apart = refl
behind_apart (label ∷ front) (other ∷ labels) apart = by (label_cmp other label) refl (behind_apart front labels)
  where
    by : (o : Ordering) → label_cmp other label ≡ o → (((rest : List Label) → labels ≡ front ++ rest → ⊥) → mark_behind front labels ≡ by_label (slice_cmp label_cmp labels front) (topped 8 0)) → mark_behind (label ∷ front) (other ∷ labels) ≡ by_label (slice_cmp label_cmp (other ∷ labels) (label ∷ front)) (topped 8 0)
    by Less is rest = rw is refl
    by Equal is rest =
        let same : other ≡ label = slice_cmp-IsAntisymmetric nat_cmp-IsAntisymmetric other label is in
        rw is (rest (λ more joined. apart more (λ i. same i ∷ joined i)))
    by Greater is rest = rw is refl

turned : (labels : List Label) → All (All (λ octet. octet < 256)) labels → All (All (λ octet. octet < 256)) (reverse labels)
turned [] all = all
turned (label ∷ labels) all =
    subst (All (All (λ octet. octet < 256))) (sym (reverse-append (label ∷ []) labels))
    (All-append (All (λ octet. octet < 256)) (reverse labels) (label ∷ []) (turned labels (All-tail (All (λ octet. octet < 256)) label labels all))
    (All-cons (All (λ octet. octet < 256)) label [] (All-head (All (λ octet. octet < 256)) label labels all) (All-nil (All (λ octet. octet < 256)))))

first_small : (labels : List Label) → All (All (λ octet. octet < 256)) labels → All (λ octet. octet < 256) (first_label labels)
first_small [] all = All-nil (λ octet. octet < 256)
first_small (label ∷ labels) all = All-head (All (λ octet. octet < 256)) label labels all

front_small : (front apex : List Label) → All (All (λ octet. octet < 256)) (front ++ apex) → All (All (λ octet. octet < 256)) front
front_small [] apex all = All-nil (All (λ octet. octet < 256))
front_small (label ∷ front) apex all =
    All-cons (All (λ octet. octet < 256)) label front (All-head (All (λ octet. octet < 256)) label (front ++ apex) all)
    (front_small front apex (All-tail (All (λ octet. octet < 256)) label (front ++ apex) all))

small_name : (name : List Label) → IsName name → All (All (λ octet. octet < 256)) name
small_name name is = λ k d within. (is.each k d within).octets

-- of a name at or below the apex
pub mark_under : (apex name : List Label) → IsName name → IsUnder name apex → digest_below (length apex) name ≡ name_mark apex name
mark_under apex name is under =
    let front = under.0 in
    let small = first_small (reverse front) (turned front (front_small front apex (subst (All (All (λ octet. octet < 256))) under.1 (small_name name is)))) in
    ap (λ n. digest_below (length apex) n) under.1
    ∙ (ap (λ labels. padded 8 0 (first_label labels)) (past_apex front apex)
    ∙ (padded_is 8 0 (first_label (reverse front)) small
    ∙ (sym (behind_level (reverse apex) (reverse front))
    ∙ ap (mark_behind (reverse apex)) (sym (reverse-append front apex) ∙ ap reverse (sym under.1)))))

not_in_front : (apex name : List Label) → (IsUnder name apex → ⊥) → (rest : List Label) → reverse name ≡ reverse apex ++ rest → ⊥
not_in_front apex name apart rest joined =
    apart (
      reverse rest,
      sym (reverse-reverse name) ∙ (ap reverse joined ∙ (reverse-append (reverse apex) rest ∙ ap (λ labels. reverse rest ++ labels) (reverse-reverse apex))),
    )

-- of another, by its order to the apex
pub mark_apart : (apex name : List Label) → (IsUnder name apex → ⊥) → name_mark apex name ≡ by_label (canonical_cmp name apex) (topped 8 0)
mark_apart apex name apart = behind_apart (reverse apex) (reverse name) (not_in_front apex name apart)

pub mark_before : (apex name : List Label) → (IsUnder name apex → ⊥) → is_lt (canonical_cmp name apex) ≡ true → 0 ≡ name_mark apex name
mark_before apex name apart before = sym (mark_apart apex name apart ∙ by (canonical_cmp name apex) before)
  where
    by : (o : Ordering) → is_lt o ≡ true → by_label o (topped 8 0) ≡ 0
    by Less is = refl
    by Equal is = absurd (true≢false (sym is))
    by Greater is = absurd (true≢false (sym is))

pub mark_after : (apex name : List Label) → (IsUnder name apex → ⊥) → is_lt (canonical_cmp name apex) ≡ false → topped 8 0 ≡ name_mark apex name
mark_after apex name apart after = sym (mark_apart apex name apart ∙ by (canonical_cmp name apex) refl after)
  where
    by : (o : Ordering) → canonical_cmp name apex ≡ o → is_lt o ≡ false → by_label o (topped 8 0) ≡ topped 8 0
    by Less at is = absurd (true≢false is)
    by Equal at is = absurd (apart ([], canonical_equal name apex at))
    by Greater at is = refl

pub not_under : (apex name : List Label) (b : Bool) → (IsUnder name apex → b ≡ true) → b ≡ false → IsUnder name apex → ⊥
not_under apex name b so is under = true≢false (sym (so under) ∙ is)

-- the octets in front are enough
spelled_front : (n a : ℕ) (us : List ℕ) → spelled n a (take n us) ≡ spelled n a us
spelled_front zero a us = refl
spelled_front (suc n) a [] = refl
spelled_front (suc n) a (u ∷ us) = by (nat_lt u 256) refl (spelled_front n (a * 256 + u) us)
  where
    by : (b : Bool) → nat_lt u 256 ≡ b → spelled n (a * 256 + u) (take n us) ≡ spelled n (a * 256 + u) us → spelled (suc n) a (take (suc n) (u ∷ us)) ≡ spelled (suc n) a (u ∷ us)
    by true is rest = rw is rest
    by false is rest = rw is refl

-- of octets the number that the first eight spell
pub hash_mark_is : (hash : List ℕ) → 8 ≤ length hash → All (λ octet. octet < 256) (take 8 hash) → big_endian 0 (take 8 hash) ≡ hash_mark hash
hash_mark_is hash long small = sym (padded_long 8 0 hash long) ∙ padded_front 8 0 hash ∙ padded_is 8 0 (take 8 hash) small ∙ spelled_front 8 0 hash
  where
    padded_front : (n a : ℕ) (us : List ℕ) → padded n a us ≡ padded n a (take n us)
    padded_front zero a us = refl
    padded_front (suc n) a [] = refl
    padded_front (suc n) a (u ∷ us) = padded_front n (a * 256 + u) us
