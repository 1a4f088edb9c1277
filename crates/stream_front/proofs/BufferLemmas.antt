-- Octets between two places of a store, behind which more are put.
use Rattle.std.proofs.Common.{◌≡◌, ℕ, ◌+◌, ◌-◌, ◌≤◌, List, [], ◌++◌, length, take, drop, refl, sym, ◌∙◌, ap, arith, length-append, length-drop}
use Rattle.std.specs.List.{between}
use Rattle.std.proofs.Math.Seq.{take-append-add, take-append_seam}
use Rattle.std.proofs.lemmas.List.{append-nil, length-take-le, take-append-le, drop-append-le, drop-drop, drop_all}
use Rattle.std.proofs.lemmas.Slice.{between_is}

length-between : (xs : List ℕ) (start end : ℕ) → start ≤ end → end ≤ length xs → length (between start end xs) ≡ end - start
length-between xs start end low within = length-take-le (end - start) (drop start xs) (omega (arith, length-drop start xs, low, within))

-- the first of what is put behind them belong to them
pub put_behind : (xs ys post : List ℕ) (start end count : ℕ) → start ≤ end → end ≤ length xs → count ≤ length ys → between start (end + count) (take end xs ++ (ys ++ post)) ≡ between start end xs ++ take count ys
put_behind xs ys post start end count low within few =
    let size : length (take end xs) ≡ end = length-take-le end xs within in
    between_is (take end xs ++ (ys ++ post)) start (end + count)
    ∙ ap (drop start) (ap (λ n. take (n + count) (take end xs ++ (ys ++ post))) (sym size) ∙ take-append-add (take end xs) (ys ++ post) count ∙ ap (λ l. take end xs ++ l) (take-append-le count ys post few))
    ∙ drop-append-le start (take end xs) (take count ys) (omega (arith, size, low))
    ∙ ap (λ l. l ++ take count ys) (sym (between_is xs start end))

-- so it is of a store of such a length, into which a part is put
pub stored_behind : (items xs ys : List ℕ) (len start end size count : ℕ) → xs ≡ items → length xs ≡ len → start ≤ end → end + size ≤ len → length ys ≡ size → count ≤ size
    → between start (end + count) (take len ((take end xs ++ (ys ++ drop size (drop end xs))) ++ drop (length (take end xs ++ (ys ++ drop size (drop end xs)))) items)) ≡ between start end items ++ take count ys
stored_behind items xs ys len start end size count same many low within ys_many few =
    let whole : List ℕ = take end xs ++ (ys ++ drop size (drop end xs)) in
    let long : length whole ≡ len = omega (arith, length-append (take end xs) (ys ++ drop size (drop end xs)), length-append ys (drop size (drop end xs)), length-drop size (drop end xs), length-drop end xs, length-take-le end xs (omega (arith, many, within)), many, within, ys_many) in
    ap (between start (end + count)) (ap (λ n. take n (whole ++ drop (length whole) items)) (sym long) ∙ take-append_seam whole (drop (length whole) items))
    ∙ put_behind xs ys (drop size (drop end xs)) start end count low (omega (arith, many, within)) (omega (arith, ys_many, few))
    ∙ ap (λ l. between start end l ++ take count ys) same

-- they are as they were
pub stored_before : (items xs ys : List ℕ) (len start end size : ℕ) → xs ≡ items → length xs ≡ len → start ≤ end → end + size ≤ len → length ys ≡ size
    → between start end (take len ((take end xs ++ (ys ++ drop size (drop end xs))) ++ drop (length (take end xs ++ (ys ++ drop size (drop end xs)))) items)) ≡ between start end items
stored_before items xs ys len start end size same many low within ys_many =
    let whole : List ℕ = take end xs ++ (ys ++ drop size (drop end xs)) in
    ap (λ n. between start n (take len (whole ++ drop (length whole) items))) (sym (plus_none end))
    ∙ stored_behind items xs ys len start end size 0 same many low within ys_many (omega arith)
    ∙ append-nil (between start end items)
  where
    plus_none : (n : ℕ) → n + 0 ≡ n
    plus_none n = omega arith

-- a part has its length
pub length-part : (xs : List ℕ) (at size : ℕ) → at + size ≤ length xs → length (take size (drop at xs)) ≡ size
length-part xs at size within = length-take-le size (drop at xs) (omega (arith, length-drop at xs, within))

-- the last of them, so many
pub last_of : (xs : List ℕ) (start end count : ℕ) → start ≤ end → end ≤ length xs → count ≤ length (between start end xs) → between (end - count) end xs ≡ drop (length (between start end xs) - count) (between start end xs)
last_of xs start end count low within few =
    let size : length (between start end xs) ≡ end - start = length-between xs start end low within in
    let at : end - count ≡ start + (length (between start end xs) - count) = omega (arith, low, size, few) in
    between_is xs (end - count) end ∙ ap (λ n. drop n (take end xs)) at ∙ sym (drop-drop (length (between start end xs) - count) start (take end xs))
    ∙ ap (drop (length (between start end xs) - count)) (sym (between_is xs start end))

pub none_of : (xs : List ℕ) (count : ℕ) → count ≡ 0 → [] ≡ drop (length xs - count) xs
none_of xs count none = sym (drop_all (length xs - count) xs (omega (arith, none)))
