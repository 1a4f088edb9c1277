-- The strings from an offset on are packed, and are those that are left.
use Rattle.std.proofs.Common.{◌≡◌, ◌≢◌, ℕ, ◌+◌, ◌-◌, ◌^◌, ◌<◌, ◌≤◌, zero, suc, Bool, true, false, List, [], ◌∷◌, ◌++◌, length, drop, get_or, set, refl, sym, ◌∙◌, ap, inl, inr, arith, length-append}
use Rattle.std.specs.Prelude.{if◌then◌else◌, nat_lt}
use Rattle.std.proofs.Math.Seq.{drop-append-add}
use Rattle.std.proofs.lemmas.List.{get_or-set_same, get_or-set_other}
use Rattle.std.proofs.lemmas.List.Elements.{All-drop}
use Rattle.std.proofs.lemmas.Bool.{cases_lt, ltb-false, le-ltb}
use Rattle.dname.specs.Pack.{HasPlace, head_of, packed, pieces_of, IsPacked}
use Rattle.dname.proofs.PackLemmas.{is_pack_of}
use Rattle.denial_records.specs.Kept.{octets_before, kept_offset, HasOffsets}

drop-packed : (count : ℕ) (pieces : List (List ℕ)) → drop (octets_before count pieces) (packed pieces) ≡ packed (drop count pieces)
drop-packed zero pieces = refl
drop-packed (suc count) [] = refl
drop-packed (suc count) (piece ∷ rest) =
    drop-append-add (head_of (length piece)) (piece ++ packed rest) (length piece + octets_before count rest)
    ∙ drop-append-add piece (packed rest) (octets_before count rest) ∙ drop-packed count rest

before-packed : (count : ℕ) (pieces : List (List ℕ)) → octets_before count pieces ≤ length (packed pieces)
before-packed zero pieces = omega arith
before-packed (suc count) [] = omega arith
before-packed (suc count) (piece ∷ rest) = omega (arith, length-append (head_of (length piece)) (piece ++ packed rest), length-append piece (packed rest), before-packed count rest)

-- the strings behind the first so many begin at the offset
pub record BeginsAt (count offset : ℕ) (octets : List ℕ) : Type 0 where
  pub within : offset ≤ length octets
  pub packed : IsPacked (drop offset octets)
  pub pieces_are : pieces_of (drop offset octets) ≡ drop count (pieces_of octets)

pub begins_at : (count offset : ℕ) (octets : List ℕ) → IsPacked octets → offset ≡ octets_before count (pieces_of octets) → BeginsAt count offset octets
begins_at count offset octets is at =
    let behind = ap (λ o. drop o octets) at ∙ ap (drop (octets_before count (pieces_of octets))) is.spelled ∙ drop-packed count (pieces_of octets) in
    let left = is_pack_of (drop offset octets) (drop count (pieces_of octets)) behind (All-drop HasPlace count (pieces_of octets) is.each) in
    record {
      within = omega (arith, at, before-packed count (pieces_of octets), ap length is.spelled);
      packed = left.packed;
      pieces_are = left.pieces_are;
    }

-- an offset that isn't the greatest number is kept as it is
kept_is : (kept offset : ℕ) → kept ≡ kept_offset offset → kept ≢ 2 ^ 32 - 1 → kept ≡ offset
kept_is kept offset is apart = by (nat_lt offset (2 ^ 32 - 1)) is
  where
    by : (b : Bool) → kept ≡ (if b then offset else 2 ^ 32 - 1) → kept ≡ offset
    by true is = is
    by false is = absurd (apart is)

-- the strings read from the offsets
pub begins_behind : (n count : ℕ) (offsets octets : List ℕ) (pieces : List (List ℕ)) → HasOffsets n offsets pieces → IsPacked octets → pieces_of octets ≡ pieces → count ≢ 0 → count ≤ n → get_or offsets (count - 1) 0 ≢ 2 ^ 32 - 1 → BeginsAt count (get_or offsets (count - 1) 0) octets
begins_behind n count offsets octets pieces has is are some within apart =
    let next : suc (count - 1) ≡ count = omega (arith, some) in
    begins_at count (get_or offsets (count - 1) 0) octets is
    (kept_is _ _ (has (count - 1) (omega (arith, some, within))) apart ∙ ap (λ k. octets_before k pieces) next ∙ ap (octets_before count) (sym are))

-- a string more
pub before_more : (count : ℕ) (pieces : List (List ℕ)) (piece : List ℕ) (rest : List (List ℕ)) → drop count pieces ≡ piece ∷ rest → octets_before (suc count) pieces ≡ octets_before count pieces + (length (head_of (length piece)) + length piece)
before_more zero pieces piece rest are = ap (octets_before 1) are ∙ omega arith
before_more (suc count) [] piece rest are = cc
before_more (suc count) (first ∷ others) piece rest are = omega (arith, before_more count others piece rest are)

-- no string more
pub before_all : (count : ℕ) (pieces : List (List ℕ)) → drop count pieces ≡ [] → octets_before (suc count) pieces ≡ octets_before count pieces
before_all zero pieces none = ap (octets_before 1) none
before_all (suc count) [] none = refl
before_all (suc count) (first ∷ others) none = omega (arith, before_all count others none)

full : (k : ℕ) → 2 ^ 32 - 1 ≤ k → kept_offset k ≡ 2 ^ 32 - 1
full k far = rw (le-ltb k (2 ^ 32 - 1) far) refl

-- an offset behind one that is kept, kept again
pub kept_behind : (offset before size behind : ℕ) → offset ≡ kept_offset before → behind ≡ kept_offset (offset + size) → behind ≡ kept_offset (before + size)
kept_behind offset before size behind is behind_is = by (nat_lt before (2 ^ 32 - 1)) refl is
  where
    by : (b : Bool) → nat_lt before (2 ^ 32 - 1) ≡ b → offset ≡ (if b then before else 2 ^ 32 - 1) → behind ≡ kept_offset (before + size)
    by true few is = behind_is ∙ ap (λ o. kept_offset (o + size)) is
    by false many is =
        let far : 2 ^ 32 - 1 ≤ before = ltb-false before (2 ^ 32 - 1) many in
        behind_is ∙ full (offset + size) (omega (arith, is)) ∙ sym (full (before + size) (omega (arith, far)))

-- an offset more
pub offset_more : (count offset : ℕ) (offsets : List ℕ) (pieces : List (List ℕ)) → HasOffsets count offsets pieces → count < length offsets → offset ≡ kept_offset (octets_before (suc count) pieces) → HasOffsets (count + 1) (set offsets count offset) pieces
offset_more count offset offsets pieces has within at i below = elim (cases_lt i count) [
  | inl old ↦ get_or-set_other offsets count i offset 0 (λ same. omega (arith, old, same)) ∙ has i old
  | inr new ↦
      let same : i ≡ count = omega (arith, below, new) in
      ap (λ j. get_or (set offsets count offset) j 0) same ∙ get_or-set_same offsets count offset 0 within ∙ at ∙ ap (λ j. kept_offset (octets_before (suc j) pieces)) (sym same)
]
