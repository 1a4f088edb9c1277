-- The types that blocks stand for rise, and have 16 bits.
use Rattle.std.proofs.Common.{◌≡◌, ℕ, ◌+◌, ◌*◌, ◌^◌, ◌<◌, ◌≤◌, zero, suc, Bool, true, false, cond, List, [], ◌∷◌, ◌++◌, length, get_or, drop, map, filter, Fits, w8, All, refl, sym, subst, arith}
use Rattle.std.specs.List.{range_with_len}
use Rattle.std.proofs.lemmas.List.Elements.{All-nil, All-cons, All-head, All-tail, All-append, All-drop, All-same, All-weaker, All-from_get_or}
use Rattle.std.proofs.lemmas.List.{drop_at}
use Rattle.denial_records.specs.TypeSet.{Block, map_of, AreBlocksFrom, has_bit, bits_of, types_of_block, types_of, IsTypeMap, IsTypeSet, IsKept, types_in}
use Rattle.denial_records.proofs.TypeSetLemmas.{map_in}

-- each number is at least the bound, and above the one before it
abbrev RisesFrom : ℕ → List ℕ → Type 0
RisesFrom least [] = Unit {0}
RisesFrom least (x ∷ xs) = (least ≤ x) × RisesFrom (x + 1) xs

rises_lower : (least least' : ℕ) (xs : List ℕ) → least ≤ least' → RisesFrom least' xs → RisesFrom least xs
rises_lower least least' [] le rises = tt
rises_lower least least' (x ∷ xs) le rises = (omega (arith, le, rises.0), rises.1)

at_least : (least : ℕ) (xs : List ℕ) → RisesFrom least xs → (k d : ℕ) → k < length xs → least ≤ get_or xs k d
at_least least [] rises k d within = absurd (omega (arith, within))
at_least least (x ∷ xs) rises zero d within = rises.0
at_least least (x ∷ xs) rises (suc k) d within = omega (arith, rises.0, at_least (x + 1) xs rises.1 k d (omega (arith, within)))

pairs_rise : (least : ℕ) (xs : List ℕ) → RisesFrom least xs → (i j d : ℕ) → i < j → j < length xs → get_or xs i d < get_or xs j d
pairs_rise least [] rises i j d before within = absurd (omega (arith, within))
pairs_rise least (x ∷ xs) rises i zero d before within = absurd (omega (arith, before))
pairs_rise least (x ∷ xs) rises zero (suc j) d before within = omega (arith, at_least (x + 1) xs rises.1 j d (omega (arith, within)))
pairs_rise least (x ∷ xs) rises (suc i) (suc j) d before within = pairs_rise (x + 1) xs rises.1 i j d (omega (arith, before)) (omega (arith, within))

rises_append : (least middle : ℕ) (xs ys : List ℕ) → least ≤ middle → RisesFrom least xs → All (λ x. x < middle) xs → RisesFrom middle ys → RisesFrom least (xs ++ ys)
rises_append least middle [] ys le rises below rises' = rises_lower least middle ys le rises'
rises_append least middle (x ∷ xs) ys le rises below rises' =
    (rises.0, rises_append (x + 1) middle xs ys (omega (arith, All-head (λ x. x < middle) x xs below)) rises.1 (All-tail (λ x. x < middle) x xs below) rises')

-- the numbers of a range that pass a test, moved up by an offset
rises_cond : (b : Bool) (least x : ℕ) (xs : List ℕ) → least ≤ x → RisesFrom (x + 1) xs → RisesFrom least (cond b (x ∷ xs) xs)
rises_cond true least x xs le rises = (le, rises)
rises_cond false least x xs le rises = rises_lower least (x + 1) xs (omega (arith, le)) rises

rises_filter : (p : ℕ → Bool) (a n : ℕ) → RisesFrom a (filter p (range_with_len a n))
rises_filter p a zero = tt
rises_filter p a (suc n) = rises_cond (p a) a a (filter p (range_with_len (a + 1) n)) (omega arith) (rises_filter p (a + 1) n)

rises_moved : (by least : ℕ) (xs : List ℕ) → RisesFrom least xs → RisesFrom (by + least) (map (λ x. by + x) xs)
rises_moved by least [] rises = tt
rises_moved by least (x ∷ xs) rises = (omega (arith, rises.0), subst (λ n. RisesFrom n (map (λ x. by + x) xs)) (place by x) (rises_moved by (x + 1) xs rises.1))
  where
    place : (by x : ℕ) → by + (x + 1) ≡ by + x + 1
    place by x = omega arith

below_cond : (b : Bool) (top x : ℕ) (xs : List ℕ) → x < top → All (λ x. x < top) xs → All (λ x. x < top) (cond b (x ∷ xs) xs)
below_cond true top x xs lt below = All-cons (λ x. x < top) x xs lt below
below_cond false top x xs lt below = below

below_filter : (p : ℕ → Bool) (a n top : ℕ) → a + n ≤ top → All (λ x. x < top) (filter p (range_with_len a n))
below_filter p a zero top le = All-nil (λ x. x < top)
below_filter p a (suc n) top le = below_cond (p a) top a (filter p (range_with_len (a + 1) n)) (omega (arith, le)) (below_filter p (a + 1) n top (omega (arith, le)))

below_moved : (by top : ℕ) (xs : List ℕ) → All (λ x. x < top) xs → All (λ x. x < by + top) (map (λ x. by + x) xs)
below_moved by top [] below = All-nil (λ x. x < by + top)
below_moved by top (x ∷ xs) below =
    All-cons (λ x. x < by + top) (by + x) (map (λ x. by + x) xs) (omega (arith, All-head (λ x. x < top) x xs below)) (below_moved by top xs (All-tail (λ x. x < top) x xs below))

block_rises : (block : Block) → RisesFrom (256 * block.window) (types_of_block block)
block_rises block = subst (λ n. RisesFrom n (types_of_block block)) (place (256 * block.window)) (rises_moved (256 * block.window) 0 (bits_of block.bitmap) (rises_filter (has_bit block.bitmap) 0 (8 * length block.bitmap)))
  where
    place : (n : ℕ) → n + 0 ≡ n
    place n = omega arith

block_below : (block : Block) → length block.bitmap ≤ 32 → All (λ t. t < 256 * block.window + 256) (types_of_block block)
block_below block short = below_moved (256 * block.window) 256 (bits_of block.bitmap) (below_filter (has_bit block.bitmap) 0 (8 * length block.bitmap) 256 (omega (arith, short)))

types_rise : (least : ℕ) (blocks : List Block) → AreBlocksFrom least blocks → RisesFrom (256 * least) (types_of blocks)
types_rise least [] formed = tt
types_rise least (block ∷ rest) formed =
    let middle : 256 * (block.window + 1) ≡ 256 * block.window + 256 = omega arith in
    rises_lower (256 * least) (256 * block.window) (types_of (block ∷ rest)) (omega (arith, formed.0))
    (rises_append (256 * block.window) (256 * block.window + 256) (types_of_block block) (types_of rest) (omega arith) (block_rises block) (block_below block formed.1.short)
    (subst (λ n. RisesFrom n (types_of rest)) middle (types_rise (block.window + 1) rest formed.2)))

types_small : (least : ℕ) (blocks : List Block) → AreBlocksFrom least blocks → All (λ octet. octet < 256) (map_of blocks) → All (λ t. t < 2 ^ 16) (types_of blocks)
types_small least [] formed octets = All-nil (λ t. t < 2 ^ 16)
types_small least (block ∷ rest) formed octets =
    let Small : ℕ → Type 0 = λ octet. octet < 256 in
    let window : block.window < 256 = All-head Small block.window (length block.bitmap ∷ (block.bitmap ++ map_of rest)) octets in
    let after = All-drop Small (suc (suc (length block.bitmap))) (map_of (block ∷ rest)) octets in
    All-append (λ t. t < 2 ^ 16) (types_of_block block) (types_of rest)
    (All-weaker (λ t. t < 256 * block.window + 256) (λ t. t < 2 ^ 16) (λ t lt. below_top block.window t window lt) (types_of_block block) (block_below block formed.1.short))
    (types_small (block.window + 1) rest formed.2 (All-same Small (map_of rest) (drop (length block.bitmap) (block.bitmap ++ map_of rest)) (sym (drop_at block.bitmap (map_of rest) (length block.bitmap) refl)) after))
  where
    below_top : (window t : ℕ) → window < 256 → t < 256 * window + 256 → t < 2 ^ 16
    below_top window t small lt = omega (arith, small, lt)

-- type bit maps of octets stand for a set of types
pub set_of_map : (octets types : List ℕ) → ((i : ℕ) → Fits w8 (get_or octets i 0)) → IsTypeMap octets types → IsTypeSet types
set_of_map octets types small is =
    let all : All (λ octet. octet < 256) octets = All-from_get_or (λ octet. octet < 256) octets 0 (λ i within. omega (arith, small i)) in
    record {
      rising = λ i j d before within. subst (λ l. get_or l i d < get_or l j d) (sym is.meaning) (pairs_rise 0 (types_of is.blocks) (rises_lower 0 (256 * 0) (types_of is.blocks) (omega arith) (types_rise 0 is.blocks is.formed)) i j d before (subst (λ l. j < length l) is.meaning within));
      small = subst (All (λ t. t < 2 ^ 16)) (sym is.meaning) (types_small 0 is.blocks is.formed (subst (All (λ octet. octet < 256)) is.written all));
    }

pub is_kept : (octets types : List ℕ) → ((i : ℕ) → Fits w8 (get_or octets i 0)) → IsTypeMap octets types → IsKept octets
is_kept octets types small is =
    let map = map_in octets types is in
    record { map = map; set = set_of_map octets (types_in octets) small map }
