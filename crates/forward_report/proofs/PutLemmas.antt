-- A text to which one piece after the other is put.
use Rattle.std.proofs.Common.{◌≡◌, ℕ, ◌+◌, ◌<◌, ◌≤◌, List, ◌++◌, length, take, get_or, sym, ap, ◌∙◌, arith}
use Rattle.std.specs.List.{enumerate_from, flat_map}
use Rattle.std.proofs.lemmas.List.{append_assoc, flat_map_more, take_all, take_more}
use Rattle.std.proofs.lemmas.List.FromFn.{get_or-enumerate_from, length-enumerate_from}

-- one more piece
pub put_more : {X : Type 0} (f : X → List ℕ) (xs : List X) (i : ℕ) (x : X) (zero before after : List ℕ)
    → i < length xs → before ≡ zero ++ flat_map f (take i xs) → after ≡ before ++ f (get_or xs i x) → after ≡ zero ++ flat_map f (take (i + 1) xs)
put_more f xs i x zero before after within so_far one =
    one ∙ ap (λ text. text ++ f (get_or xs i x)) so_far ∙ flat_map_more f zero (take i xs) (get_or xs i x)
    ∙ ap (λ those. zero ++ flat_map f those) (sym (take_more xs i x within))

-- all pieces are put
pub put_all : {X : Type 0} (f : X → List ℕ) (xs : List X) (i : ℕ) (zero after : List ℕ)
    → length xs ≤ i → after ≡ zero ++ flat_map f (take i xs) → after ≡ zero ++ flat_map f xs
put_all f xs i zero after over all = all ∙ ap (λ those. zero ++ flat_map f those) (take_all i xs over)

-- one more piece, which tells its place
pub put_more_by_place : {X : Type 0} (f : ℕ → X → List ℕ) (xs : List X) (i : ℕ) (x : X) (zero before after : List ℕ)
    → i < length xs → x ≡ get_or xs i x → before ≡ zero ++ flat_map (λ (k, x). f k x) (take i (enumerate_from 0 xs)) → after ≡ before ++ f i x
    → after ≡ zero ++ flat_map (λ (k, x). f k x) (take (i + 1) (enumerate_from 0 xs))
put_more_by_place f xs i x zero before after within is so_far one =
    let same : i ≡ 0 + i = omega arith in
    let at : get_or (enumerate_from 0 xs) i (0, x) ≡ (i, x) = get_or-enumerate_from 0 xs i (0, x) within ∙ (λ j. (sym same j, sym is j)) in
    put_more (λ (k, x). f k x) (enumerate_from 0 xs) i (0, x) zero before after (omega (arith, length-enumerate_from 0 xs)) so_far
    (one ∙ ap (λ pair. before ++ f pair.0 pair.1) (sym at))

-- all of them are put below a head
pub put_all_below : {X : Type 0} (f : ℕ → X → List ℕ) (xs : List X) (i : ℕ) (head zero before after : List ℕ)
    → length xs ≤ i → before ≡ zero ++ head → after ≡ before ++ flat_map (λ (k, x). f k x) (take i (enumerate_from 0 xs)) → after ≡ zero ++ (head ++ flat_map (λ (k, x). f k x) (enumerate_from 0 xs))
put_all_below f xs i head zero before after over above all =
    put_all (λ (k, x). f k x) (enumerate_from 0 xs) i before after (omega (arith, length-enumerate_from 0 xs)) all
    ∙ ap (λ text. text ++ flat_map (λ (k, x). f k x) (enumerate_from 0 xs)) above
    ∙ append_assoc zero head _

-- two pieces
pub two_put : (a b zero one two : List ℕ) → one ≡ zero ++ a → two ≡ one ++ b → two ≡ zero ++ (a ++ b)
two_put a b zero one two is1 is2 = is2 ∙ ap (λ text. text ++ b) is1 ∙ append_assoc zero a b

-- three pieces
pub three_put : (a b c zero one two three : List ℕ) → one ≡ zero ++ a → two ≡ one ++ b → three ≡ two ++ c → three ≡ zero ++ (a ++ b ++ c)
three_put a b c zero one two three is1 is2 is3 = two_put (a ++ b) c zero two three (two_put a b zero one two is1 is2) is3

-- pieces of one call, put together otherwise
pub regrouped : (a b c d e f g : List ℕ) → a ++ (b ++ (c ++ (d ++ (e ++ (f ++ g))))) ≡ a ++ b ++ c ++ d ++ e ++ f ++ g
regrouped a b c d e f g = simp append_assoc
