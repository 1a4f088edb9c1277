use Rattle.std.proofs.Common.{◌≡◌, ℕ, zero, suc, ◌+◌, ◌-◌, ◌<◌, ◌≤◌, List, [], ◌∷◌, ◌++◌, length, get_or, set, take, drop, map, reverse, refl, ◌⊎◌, sym, ◌∙◌, ap, append_assoc, length-append, add-zero, inl, inr, arith}
use Rattle.std.proofs.lemmas.List.{append-nil, map-append, length-map, take_more, drop_more, take-append-drop, get_or-map, get_or_default, get_or_push, get_or_append_left, length_push, length-take, take-append-le, drop-append-le, take_all, reverse-append, length-set, get_or-set_same, take-set, take-set-le, drop-set-lt}
use Rattle.std.proofs.lemmas.List.Concat.{flat_map-append, get_or-flat_map}
use Rattle.std.proofs.lemmas.Bool.{cases_lt}
use Rattle.std.proofs.Math.Seq.{take-append-add, drop-append-add}
use Rattle.std.specs.List.{flat_map}
use Rattle.page_list.specs.Rows.{IsEnds, IsPlace, IsSeam}

-- the ends of the blocks so far, and the last of them
pub record HasEnds {X A : Type 0} (f : X → List A) (xs : List X) (ends : List ℕ) (end : ℕ) : Type 0 where
  pub all : IsEnds f xs ends
  pub last : end ≡ length (flat_map f xs)

pub HasEnds-push : {X A : Type 0} (f : X → List A) (xs : List X) (ends : List ℕ) (end k m : ℕ) (x : X) → k ≡ length (f x) → m ≡ end + k → HasEnds f xs ends end → HasEnds f (xs ++ x ∷ []) (ends ++ m ∷ []) m
HasEnds-push f xs ends end k m x kk mm was =
    let long : length ends ≡ length xs = was.all.one_each in
    let last : m ≡ length (flat_map f (xs ++ x ∷ [])) =
    omega (arith, was.last, ap length (flat_map-append f xs (x ∷ [])), length-append (flat_map f xs) (f x ++ []), length-append (f x) []) in
    record {
      all = record {
        one_each = length_push ends m ∙ (ap (λ n. n + 1) long ∙ sym (length_push xs x));
        sums = λ j h. elim (cases_lt j (length xs)) [
          | inl in_xs ↦ get_or_append_left ends (m ∷ []) 0 j (omega arith) ∙ (was.all.sums j in_xs ∙ ap (λ z. length (flat_map f z)) (sym (take-append-le (j + 1) xs (x ∷ []) (omega arith))))
          | inr past ↦
              let same : length ends ≡ j = omega (arith, length_push xs x) in
              get_or_push ends m 0 j same ∙ (last ∙ ap (λ z. length (flat_map f z)) (sym (take_all (j + 1) (xs ++ x ∷ []) (omega (arith, length_push xs x)))))
        ];
      };
      last = last;
    }

-- what `xs[i]` reads, seen through v
pub at_mapped : {X Y : Type 0} (v : X → Y) (xs : List X) (i : ℕ) (x : X) (y : Y) → i < length xs → x ≡ get_or xs i x → y ≡ v x → (d : Y) → get_or (map v xs) i d ≡ y
at_mapped v xs i x y h e s d = get_or-map v xs i x d h ∙ (sym (ap v e) ∙ sym s)

pub mapped_in : {X Y : Type 0} (v : X → Y) (xs : List X) (i : ℕ) → i < length xs → i < length (map v xs)
mapped_in v xs i h = rw (length-map xs v) h

pub take_mapped_more : {X Y : Type 0} (w : X → Y) (from : List X) (i : ℕ) (x : X) (y : Y) → i < length from → x ≡ get_or from i x → y ≡ w x → take (i + 1) (map w from) ≡ take i (map w from) ++ y ∷ []
take_mapped_more w from i x y h e s =
    take_more (map w from) i y (mapped_in w from i h) ∙ ap (λ z. take i (map w from) ++ z ∷ []) (at_mapped w from i x y h e s y)

pub shared_more : {X Y Z : Type 0} (v : X → Y) (w : Z → Y) (os os' : List X) (base : List Y) (from : List Z) (i : ℕ) (x : Z) (y : X) → i < length from → x ≡ get_or from i x → v y ≡ w x → os' ≡ os ++ y ∷ [] → map v os ≡ base ++ take i (map w from) → map v os' ≡ base ++ take (i + 1) (map w from)
shared_more v w os os' base from i x y h e s new inv =
    let t = take_mapped_more w from i x (w x) h e refl in
    ap (map v) new ∙ (map-append v os (y ∷ []) ∙ (ap (λ z. z ++ v y ∷ []) inv ∙ (ap (λ z. (base ++ take i (map w from)) ++ z ∷ []) s ∙ (append_assoc base (take i (map w from)) (w x ∷ []) ∙ ap (λ z. base ++ z) (sym t)))))

-- the entries of one more block
pub flat_more : {Y A : Type 0} (f : Y → List A) (ys : List Y) (i : ℕ) (y : Y) → i < length ys → get_or ys i y ≡ y → flat_map f (take (i + 1) ys) ≡ flat_map f (take i ys) ++ f y
flat_more f ys i y h e =
    ap (flat_map f) (take_more ys i y h)
    ∙ (flat_map-append f (take i ys) (get_or ys i y ∷ []) ∙ (ap (λ z. flat_map f (take i ys) ++ z) (append-nil (f (get_or ys i y))) ∙ ap (λ z. flat_map f (take i ys) ++ f z) e))

pub length_more : {Y A : Type 0} (f : Y → List A) (ys : List Y) (i : ℕ) (y : Y) → i < length ys → get_or ys i y ≡ y → length (flat_map f (take (i + 1) ys)) ≡ length (flat_map f (take i ys)) + length (f y)
length_more f ys i y h e = ap length (flat_more f ys i y h e) ∙ length-append (flat_map f (take i ys)) (f y)

pub flat_split : {Y A : Type 0} (f : Y → List A) (ys : List Y) (p : ℕ) (d : Y) → p < length ys → flat_map f ys ≡ flat_map f (take p ys) ++ (f (get_or ys p d) ++ flat_map f (drop (p + 1) ys))
flat_split f ys p d h =
    ap (flat_map f) (sym (take-append-drop p ys))
    ∙ (flat_map-append f (take p ys) (drop p ys) ∙ ap (λ z. flat_map f (take p ys) ++ flat_map f z) (drop_more ys p d h))

take_within : {A : Type 0} (xs ys zs : List A) (n k : ℕ) → length xs + k ≡ n → k ≤ length ys → take n (xs ++ (ys ++ zs)) ≡ xs ++ take k ys
take_within xs ys zs n k e h =
    ap (λ z. take z (xs ++ (ys ++ zs))) (sym e) ∙ (take-append-add xs (ys ++ zs) k ∙ ap (λ z. xs ++ z) (take-append-le k ys zs h))

drop_within : {A : Type 0} (xs ys zs : List A) (n k : ℕ) → length xs + k ≡ n → k ≤ length ys → drop n (xs ++ (ys ++ zs)) ≡ drop k ys ++ zs
drop_within xs ys zs n k e h =
    ap (λ z. drop z (xs ++ (ys ++ zs))) (sym e) ∙ (drop-append-add xs (ys ++ zs) k ∙ drop-append-le k ys zs h)

-- up to a later block there are no fewer entries
pub length_along : {X A : Type 0} (f : X → List A) (xs : List X) (i j : ℕ) → i ≤ j → length (flat_map f (take i xs)) ≤ length (flat_map f (take j xs))
length_along f xs zero j le = omega arith
length_along f [] (suc i) j le = omega arith
length_along f (x ∷ xs) (suc i) zero le = absurd (omega arith)
length_along f (x ∷ xs) (suc i) (suc j) le =
    omega (arith, length_along f xs i j (omega arith), length-append (f x) (flat_map f (take i xs)), length-append (f x) (flat_map f (take j xs)))

pub length_all : {X A : Type 0} (f : X → List A) (xs : List X) (n : ℕ) → length xs ≤ n → length (flat_map f (take n xs)) ≡ length (flat_map f xs)
length_all f xs n le = ap (λ z. length (flat_map f z)) (take_all n xs le)

-- there is a block where there is an entry
pub some_block : {X A : Type 0} (f : X → List A) (xs : List X) → 0 < length (flat_map f xs) → 0 < length xs
some_block f [] h = absurd (omega arith)
some_block f (x ∷ xs) h = omega arith

pub IsPlace-between : {X A : Type 0} (f : X → List A) (xs : List X) (at low high : ℕ) → low < high → high ≤ length xs → high - low ≤ 1 → length (flat_map f (take low xs)) ≤ at → at < length (flat_map f (take high xs)) → IsPlace f xs at low (at - length (flat_map f (take low xs)))
IsPlace-between f xs at low high lt le one below above =
    let next : high ≡ low + 1 = omega arith in
    record {
      in_range = omega arith;
      before = omega arith;
      within = λ d. let more = length_more f xs low (get_or xs low d) (omega arith) (get_or_default xs low (get_or xs low d) d (omega arith)) in
          let top : length (flat_map f (take high xs)) ≡ length (flat_map f (take (low + 1) xs)) = ap (λ z. length (flat_map f (take z xs))) next in
          omega arith;
    }

pub IsSeam-from_place : {X A : Type 0} (f : X → List A) (xs : List X) (at p x : ℕ) → p < length xs → length (flat_map f (take p xs)) + x ≡ at → ((d : X) → x ≤ length (f (get_or xs p d))) → IsSeam f xs at p x
IsSeam-from_place f xs at p x h before within = record {
  in_range = h;
  within = within;
  left = λ d. ap (take at) (flat_split f xs p d h) ∙ take_within _ _ _ at x before (within d);
  right = λ d. ap (drop at) (flat_split f xs p d h) ∙ drop_within _ _ _ at x before (within d);
}

pub IsSeam-at : {X A : Type 0} (f : X → List A) (xs : List X) (at p x : ℕ) → IsPlace f xs at p x → IsSeam f xs at p x
IsSeam-at f xs at p x place =
    IsSeam-from_place f xs at p x place.in_range place.before (λ d. omega (arith, place.within d))

pub IsSeam-behind : {X A : Type 0} (f : X → List A) (xs : List X) (at p x : ℕ) → IsPlace f xs (at - 1) p x → 0 < at → IsSeam f xs at p (x + 1)
IsSeam-behind f xs at p x place pos =
    IsSeam-from_place f xs at p (x + 1) place.in_range (omega (arith, place.before)) (λ d. omega (arith, place.within d))

pub IsSeam-at_zero : {X A : Type 0} (f : X → List A) (xs : List X) (at : ℕ) → at ≡ 0 → 0 < length xs → IsSeam f xs at 0 0
IsSeam-at_zero f xs at z h = IsSeam-from_place f xs at 0 0 h (sym z) (λ d. omega arith)

-- what a page has from a place on
pub page_at : {X A : Type 0} (f : X → List A) (xs : List X) (at p x n : ℕ) (b : X) (page : List A) → IsPlace f xs at p x → b ≡ get_or xs p b → page ≡ take n (drop x (f b)) → n ≡ length page → page ≡ take n (drop at (flat_map f xs))
page_at f xs at p x n b page place is e len =
    let seam = IsSeam-at f xs at p x place in
    let right : drop at (flat_map f xs) ≡ drop x (f b) ++ flat_map f (drop (p + 1) xs) = seam.right b ∙ ap (λ z. drop x (f z) ++ flat_map f (drop (p + 1) xs)) (sym is) in
    let short : n ≤ length (drop x (f b)) = omega (arith, ap length e, length-take n (drop x (f b))) in
    e ∙ sym (ap (take n) right ∙ take-append-le n (drop x (f b)) (flat_map f (drop (p + 1) xs)) short)

-- an entry of a block, among all
pub entry_at : {X A : Type 0} (f : X → List A) (xs : List X) (p n j : ℕ) (b : X) (d : A) → p < length xs → b ≡ get_or xs p b → n ≡ length (flat_map f (take p xs)) → j < length (f b) → get_or (flat_map f xs) (n + j) d ≡ get_or (f b) j d
entry_at f xs p n j b d h is start lt =
    ap (λ m. get_or (flat_map f xs) (m + j) d) start ∙ (get_or-flat_map f xs p j b d h (rw (← is) lt) ∙ ap (λ z. get_or (f z) j d) (sym is))

-- the first entry of a block, among all
pub first_at : {X A : Type 0} (f : X → List A) (xs : List X) (p : ℕ) (b : X) (a : A) → p < length xs → b ≡ get_or xs p b → 0 < length (f b) → a ≡ get_or (f b) 0 a → (length (flat_map f (take p xs)) < length (flat_map f xs)) × (a ≡ get_or (flat_map f xs) (length (flat_map f (take p xs))) a)
first_at f xs p b a h is some e =
    (omega (arith, length_more f xs p b h (sym is), length_along f xs (p + 1) (length xs) (omega arith), length_all f xs (length xs) (omega arith)), e ∙ (sym (entry_at f xs p _ 0 b a h is refl some) ∙ ap (λ n. get_or (flat_map f xs) n a) (add-zero (length (flat_map f (take p xs))))))

-- one more part cut off the end
pub cut_more : {X P : Type 0} (values : P → List X) (rest rest' : List X) (parts parts' : List P) (new : P) (part : List X) (at : ℕ) (goal : List X) → rest' ≡ take at rest → part ≡ drop at rest → values new ≡ part → parts' ≡ parts ++ new ∷ [] → rest ++ flat_map values (reverse parts) ≡ goal → rest' ++ flat_map values (reverse parts') ≡ goal
cut_more values rest rest' parts parts' new part at goal h k is more inv =
    let e : rest' ++ values new ≡ rest = rw (h, is, k) (take-append-drop at rest) in
    ap (λ z. rest' ++ flat_map values (reverse z)) more
    ∙ (ap (λ z. rest' ++ flat_map values z) (reverse-append parts (new ∷ []))
    ∙ (sym (append_assoc rest' (values new) (flat_map values (reverse parts))) ∙ (ap (λ z. z ++ flat_map values (reverse parts)) e ∙ inv)))

-- the block before the place p is taken into what stands there
pub joined_left : {X A : Type 0} (f : X → List A) (left : List X) (p : ℕ) (x : X) (made both rest : List A) → 0 < p → p < length left → x ≡ get_or left (p - 1) x → both ≡ f x ++ made → flat_map f (take (p - 1) left) ++ both ++ rest ≡ flat_map f (take p left) ++ made ++ rest
joined_left f left p x made both rest pos lt is b =
    let back : p - 1 + 1 ≡ p = omega arith in
    let whole : flat_map f (take p left) ≡ flat_map f (take (p - 1) left) ++ f x =
    ap (λ z. flat_map f (take z left)) (sym back) ∙ flat_more f left (p - 1) x (omega arith) (sym is) in
    ap (λ z. flat_map f (take (p - 1) left) ++ z ++ rest) b
    ∙ (ap (λ z. z ++ rest) (sym (append_assoc (flat_map f (take (p - 1) left)) (f x) made)) ∙ ap (λ z. z ++ made ++ rest) (sym whole))

-- the same on the right
pub joined_right : {X A : Type 0} (f : X → List A) (right : List X) (q : ℕ) (x : X) (made both first : List A) → q + 1 < length right → x ≡ get_or right (q + 1) x → both ≡ made ++ f x → first ++ both ++ flat_map f (drop (q + 1 + 1) right) ≡ first ++ made ++ flat_map f (drop (q + 1) right)
joined_right f right q x made both first h is b =
    let whole : flat_map f (drop (q + 1) right) ≡ f x ++ flat_map f (drop (q + 1 + 1) right) =
    ap (flat_map f) (drop_more right (q + 1) x h) ∙ ap (λ z. f z ++ flat_map f (drop (q + 1 + 1) right)) (sym is) in
    ap (λ z. first ++ z ++ flat_map f (drop (q + 1 + 1) right)) b
    ∙ (ap (λ z. z ++ flat_map f (drop (q + 1 + 1) right)) (sym (append_assoc first made (f x)))
    ∙ (append_assoc (first ++ made) (f x) (flat_map f (drop (q + 1 + 1) right)) ∙ ap (λ z. first ++ made ++ z) (sym whole)))

-- the blocks that stand at last, after the joins
pub spliced_whole : {X A : Type 0} (f : X → List A) (left right made made' all front back : List X) (items : List A) (from to p x q y p' q' : ℕ) (l r : X) → IsSeam f left from p x → IsSeam f right to q y → l ≡ get_or left p l → r ≡ get_or right q r → flat_map f made ≡ take x (f l) ++ items ++ drop y (f r) → flat_map f (take p' left) ++ flat_map f made' ++ flat_map f (drop (q' + 1) right) ≡ flat_map f (take p left) ++ flat_map f made ++ flat_map f (drop (q + 1) right) → front ≡ take p' left → back ≡ drop (q' + 1) right → all ≡ front ++ made' ++ back → flat_map f all ≡ take from (flat_map f left) ++ items ++ drop to (flat_map f right)
spliced_whole f left right made made' all front back items from to p x q y p' q' l r first second is_l is_r new same e_front e_back whole =
    let start : take from (flat_map f left) ≡ flat_map f (take p left) ++ take x (f l) = first.left l ∙ ap (λ z. flat_map f (take p left) ++ take x (f z)) (sym is_l) in
    let end : drop to (flat_map f right) ≡ drop y (f r) ++ flat_map f (drop (q + 1) right) = second.right r ∙ ap (λ z. drop y (f z) ++ flat_map f (drop (q + 1) right)) (sym is_r) in
    rw (whole, flat_map-append, flat_map-append, e_front, e_back, same, new, start, end) (simp append_assoc refl)

-- the blocks that stand at last, where whole blocks stay and none come in between
pub clean_whole : {X A : Type 0} (f : X → List A) (left right none all front back : List X) (items : List A) (from to p x q y : ℕ) (l : X) → IsSeam f left from p x → IsSeam f right to q y → l ≡ get_or left p l → items ≡ [] → none ≡ [] → x ≡ length (f l) → y ≡ 0 → front ≡ take (p + 1) left → back ≡ drop q right → all ≡ front ++ none ++ back → flat_map f all ≡ take from (flat_map f left) ++ items ++ drop to (flat_map f right)
clean_whole f left right none all front back items from to p x q y l first second is_l no_items is_none whole start e_front e_back e_all =
    let at_l : take from (flat_map f left) ≡ flat_map f (take (p + 1) left) =
    first.left l ∙ (ap (λ z. flat_map f (take p left) ++ take x (f z)) (sym is_l) ∙ (ap (λ z. flat_map f (take p left) ++ z) (take_all x (f l) (omega arith)) ∙ sym (flat_more f left p l first.in_range (sym is_l)))) in
    let at_r : drop to (flat_map f right) ≡ flat_map f (drop q right) =
    second.right l ∙ (ap (λ n. drop n (f (get_or right q l)) ++ flat_map f (drop (q + 1) right)) start ∙ sym (ap (flat_map f) (drop_more right q l second.in_range))) in
    rw (e_all, e_front, e_back, is_none, flat_map-append, flat_map-append, at_l, at_r, no_items) refl

pub nat_cases : (k p : ℕ) → (k ≡ p) ⊎ (k ≡ p → ⊥)
nat_cases k p = elim (cases_lt k p) [
  | inl lt ↦ inr (λ same. omega arith)
  | inr le ↦
      elim (cases_lt p k) [
        | inl more ↦ inr (λ same. omega arith)
        | inr ge ↦ inl (omega arith)
      ]
]

-- a place that no block but p has, or at which p starts or ends
pub IsSeam-in_block : {X A : Type 0} (f : X → List A) (xs : List X) (at p start end : ℕ) → p < length xs → start ≡ length (flat_map f (take p xs)) → end ≡ length (flat_map f (take (p + 1) xs)) → start ≤ at → at ≤ end → IsSeam f xs at p (at - start)
IsSeam-in_block f xs at p start end h is_start is_end from to =
    IsSeam-from_place f xs at p (at - start) h (omega arith) (λ d. let more = length_more f xs p (get_or xs p d) h (get_or_default xs p (get_or xs p d) d h) in omega arith)

pub block_end : {X A : Type 0} (f : X → List A) (xs : List X) (ends : List ℕ) (p end : ℕ) → IsEnds f xs ends → p < length xs → end ≡ get_or ends p end → end ≡ length (flat_map f (take (p + 1) xs))
block_end f xs ends p end has h is = is ∙ (get_or_default ends p end 0 (omega (arith, has.one_each)) ∙ has.sums p h)

-- the entries where a block stands in the place of another one
flat_set : {X A : Type 0} (f : X → List A) (xs : List X) (p : ℕ) (b : X) → p < length xs → flat_map f (set xs p b) ≡ flat_map f (take p xs) ++ (f b ++ flat_map f (drop (p + 1) xs))
flat_set f xs p b h =
    flat_split f (set xs p b) p b (rw (length-set xs p b) h)
    ∙ (ap (λ z. flat_map f z ++ (f (get_or (set xs p b) p b) ++ flat_map f (drop (p + 1) (set xs p b)))) (take-set xs p b)
    ∙ (ap (λ z. flat_map f (take p xs) ++ (f z ++ flat_map f (drop (p + 1) (set xs p b)))) (get_or-set_same xs p b b h)
    ∙ ap (λ z. flat_map f (take p xs) ++ (f b ++ flat_map f z)) (drop-set-lt (p + 1) xs p b (omega arith))))

pub replaced_whole : {X A : Type 0} (f : X → List A) (xs all : List X) (items : List A) (from to p x y : ℕ) (b b' : X) → IsSeam f xs from p x → IsSeam f xs to p y → b ≡ get_or xs p b → f b' ≡ take x (f b) ++ items ++ drop y (f b) → all ≡ set xs p b' → flat_map f all ≡ take from (flat_map f xs) ++ items ++ drop to (flat_map f xs)
replaced_whole f xs all items from to p x y b b' first last is new whole =
    let start : take from (flat_map f xs) ≡ flat_map f (take p xs) ++ take x (f b) = first.left b ∙ ap (λ z. flat_map f (take p xs) ++ take x (f z)) (sym is) in
    let end : drop to (flat_map f xs) ≡ drop y (f b) ++ flat_map f (drop (p + 1) xs) = last.right b ∙ ap (λ z. drop y (f z) ++ flat_map f (drop (p + 1) xs)) (sym is) in
    rw (whole, flat_set f xs p b' first.in_range, new, start, end) (simp append_assoc refl)

-- the numbers from the place p on differ by what `new` is more than `old`
pub record AreMoved (numbers : List ℕ) (p old new : ℕ) (made : List ℕ) : Type 0 where
  pub one_each : length made ≡ length numbers
  pub before : (k : ℕ) → k < p → get_or made k 0 ≡ get_or numbers k 0
  pub behind : (k : ℕ) → p ≤ k → k < length numbers → get_or made k 0 + old ≡ get_or numbers k 0 + new

-- how many entries there are up to a place behind the block that is exchanged
length_set : {X A : Type 0} (f : X → List A) (xs : List X) (p k : ℕ) (b d : X) → p < length xs → p < k → length (flat_map f (take k (set xs p b))) + length (f (get_or xs p d)) ≡ length (flat_map f (take k xs)) + length (f b)
length_set f [] p k b d h lt = absurd (omega arith)
length_set f (x ∷ xs) p zero b d h lt = absurd (omega arith)
length_set f (x ∷ xs) zero (suc k) b d h lt =
    omega (arith, length-append (f b) (flat_map f (take k xs)), length-append (f x) (flat_map f (take k xs)))
length_set f (x ∷ xs) (suc p) (suc k) b d h lt =
    omega (arith, length_set f xs p k b d (omega arith) (omega arith), length-append (f x) (flat_map f (take k xs)), length-append (f x) (flat_map f (take k (set xs p b))))

-- the ends of a row in which a block stands in the place of another one
pub IsEnds-set : {X A : Type 0} (f : X → List A) (xs : List X) (ends ends' : List ℕ) (p old new : ℕ) (b b' : X) → p < length xs → b ≡ get_or xs p b → old ≡ length (f b) → new ≡ length (f b') → AreMoved ends p old new ends' → IsEnds f xs ends → IsEnds f (set xs p b') ends'
IsEnds-set f xs ends ends' p old new b b' h is is_old is_new moved was = record {
  one_each = moved.one_each ∙ (was.one_each ∙ sym (length-set xs p b'));
  sums = λ k lt. elim (cases_lt k p) [
    | inl front ↦
        moved.before k front
        ∙ (was.sums k (omega (arith, length-set xs p b')) ∙ ap (λ z. length (flat_map f z)) (sym (take-set-le (k + 1) xs p b' (omega arith))))
    | inr behind ↦
        (let in_xs : k < length xs = omega (arith, length-set xs p b') in
        let e = length_set f xs p (k + 1) b' b h (omega arith) in
        let same : length (f (get_or xs p b)) ≡ old = ap (λ z. length (f z)) (sym is) ∙ sym is_old in
        omega (arith, e, same, moved.behind k behind (omega (arith, was.one_each)), was.sums k in_xs))
  ];
}

-- each end from a block's on is no less than its length
pub end_is_past : {X A : Type 0} (f : X → List A) (xs : List X) (ends : List ℕ) (p old k : ℕ) (b : X) → p < length xs → b ≡ get_or xs p b → old ≡ length (f b) → IsEnds f xs ends → p ≤ k → k < length ends → old ≤ get_or ends k 0
end_is_past f xs ends p old k b h is is_old was le lt =
    omega (arith, was.one_each, was.sums k (omega (arith, was.one_each)), length_along f xs (p + 1) (k + 1) (omega arith), length_more f xs p b h (sym is))
