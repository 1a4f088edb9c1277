-- Digests never go against canonical order.
use Rattle.std.proofs.Common.{◌≡◌, ℕ, ◌+◌, ◌*◌, ◌<◌, ◌≤◌, zero, suc, List, [], ◌∷◌, ◌++◌, length, take, drop, reverse, refl, sym, ◌∙◌, ap, subst, arith}
use Rattle.std.specs.declared.cmp.Ordering.{Ordering}
use Rattle.std.specs.declared.cmp.Ordering.TheVariants.{Less, Equal}
use Rattle.std.specs.Ordering.{nat_cmp, ordering_then}
use Rattle.std.specs.Cmp.Lexicographic.{slice_cmp}
use Rattle.std.specs.List.{All}
use Rattle.std.specs.Slice.Scan.{big_endian}
use Rattle.std.proofs.lemmas.Cmp.{ranked, by_ranked}
use Rattle.std.proofs.lemmas.List.{reverse-append, length-reverse, drop_at, take_at}
use Rattle.std.proofs.lemmas.List.Elements.{All-nil, All-cons, All-append, All-same, All-take, All-head, All-tail}
use Rattle.dname.specs.Name.{Label, IsUnder, label_cmp, canonical_cmp}
use Rattle.dname.specs.Digest.{padded, first_label, digest_below}
use Rattle.dname.specs.Order.{canonical_same}
use Rattle.dname.proofs.OrderLemmas.{canonical_cmp-append}
use Rattle.dname.proofs.PieceLemmas.{Small}

stays : (n a b : ℕ) (us : Label) → a ≤ b → padded n a [] ≤ padded n b us
stays zero a b us le = le
stays (suc n) a b [] le = stays n (a * 256) (b * 256) [] (omega arith)
stays (suc n) a b (u ∷ us) le = stays n (a * 256) (b * 256 + u) us (omega arith)

rises : (n a b : ℕ) (us vs : Label) → All Small us → a < b → padded n a us < padded n b vs
rises zero a b us vs small less = less
rises (suc n) a b [] [] small less = rises n (a * 256) (b * 256) [] [] small (omega arith)
rises (suc n) a b [] (v ∷ vs) small less = rises n (a * 256) (b * 256 + v) [] vs small (omega arith)
rises (suc n) a b (u ∷ us) [] small less = rises n (a * 256 + u) (b * 256) us [] (All-tail Small u us small) (omega (arith, All-head Small u us small))
rises (suc n) a b (u ∷ us) (v ∷ vs) small less = rises n (a * 256 + u) (b * 256 + v) us vs (All-tail Small u us small) (omega (arith, All-head Small u us small))

-- of two labels the one with the lesser number goes first
pub padded_less : (n a : ℕ) (us vs : Label) → All Small vs → padded n a us < padded n a vs → label_cmp us vs ≡ Less
padded_less zero a us vs small less = absurd (omega arith)
padded_less (suc n) a [] [] small less = absurd (omega arith)
padded_less (suc n) a [] (v ∷ vs) small less = refl
padded_less (suc n) a (u ∷ us) [] small less = absurd (omega (arith, less, stays n (a * 256) (a * 256 + u) us (omega arith)))
padded_less (suc n) a (u ∷ us) (v ∷ vs) small less =
    let first = λ (o : Ordering) (is : nat_cmp u v ≡ o). ap (λ r. ordering_then r (slice_cmp nat_cmp us vs)) is in
    by_ranked (u < v) (u ≡ v) (v < u) (nat_cmp u v) (ranked u v (nat_cmp u v) refl)
    (λ is lt. first Less is)
    (λ is same. first Equal is ∙ padded_less n (a * 256 + u) us vs (All-tail Small v vs small) (subst (λ w. padded n (a * 256 + u) us < padded n (a * 256 + w) vs) (sym same) less))
    (λ is gt. absurd (omega (arith, less, rises n (a * 256 + v) (a * 256 + u) vs us (All-tail Small v vs small) (omega (arith, gt)))))

-- what is left of a name's labels from the right, past the apex
pub past_apex : (front apex : List Label) → drop (length apex) (reverse (front ++ apex)) ≡ reverse front
past_apex front apex =
    ap (drop (length apex)) (reverse-append front apex)
    ∙ drop_at (reverse apex) (reverse front) (length apex) (length-reverse apex)

turned : (labels : List Label) → All (All Small) labels → All (All Small) (reverse labels)
turned [] all = all
turned (label ∷ labels) all =
    subst (All (All Small)) (sym (reverse-append (label ∷ []) labels))
    (All-append (All Small) (reverse labels) (label ∷ []) (turned labels (All-tail (All Small) label labels all))
    (All-cons (All Small) label [] (All-head (All Small) label labels all) (All-nil (All Small))))

-- names under one apex: a lesser digest tells the order
pub digest_order : (apex name other : List Label) → IsUnder name apex → IsUnder other apex → All (All Small) other → digest_below (length apex) name < digest_below (length apex) other → canonical_cmp name other ≡ Less
digest_order apex name other under under' small less =
    let front = under.0 in
    let front' = under'.0 in
    let is : drop (length apex) (reverse name) ≡ reverse front = ap (λ n. drop (length apex) (reverse n)) under.1 ∙ past_apex front apex in
    let is' : drop (length apex) (reverse other) ≡ reverse front' = ap (λ n. drop (length apex) (reverse n)) under'.1 ∙ past_apex front' apex in
    (λ i. canonical_cmp (under.1 i) (under'.1 i))
    ∙ canonical_cmp-append front front' apex apex refl
    ∙ ap (λ o. ordering_then o (canonical_cmp front front')) (canonical_same apex apex refl)
    ∙ by (reverse front) (reverse front') (smalls front' (subst (All (All Small)) under'.1 small))
    (subst (λ l. padded 8 0 (first_label (reverse front)) < padded 8 0 (first_label l)) is' (subst (λ l. padded 8 0 (first_label l) < digest_below (length apex) other) is less))
  where
    smalls : (labels : List Label) → All (All Small) (labels ++ apex) → All (All Small) (reverse labels)
    smalls labels all = turned labels (All-same (All Small) _ _ (sym (take_at labels apex (length labels) refl)) (All-take (All Small) (length labels) (labels ++ apex) all))

    by : (f f' : List Label) → All (All Small) f' → padded 8 0 (first_label f) < padded 8 0 (first_label f') → slice_cmp label_cmp f f' ≡ Less
    by [] [] small less = absurd (omega arith)
    by [] (y ∷ ys) small less = refl
    by (x ∷ xs) [] small less = absurd (omega (arith, less, stays 8 0 0 x (omega arith)))
    by (x ∷ xs) (y ∷ ys) small less = ap (λ o. ordering_then o (slice_cmp label_cmp xs ys)) (padded_less 8 0 x y (All-head (All Small) y ys small) less)

-- eight octets and more: the number that the first eight spell
pub padded_long : (n a : ℕ) (label : Label) → n ≤ length label → padded n a label ≡ big_endian a (take n label)
padded_long zero a label long = refl
padded_long (suc n) a [] long = absurd (omega arith)
padded_long (suc n) a (octet ∷ rest) long = padded_long n (a * 256 + octet) rest (omega arith)
