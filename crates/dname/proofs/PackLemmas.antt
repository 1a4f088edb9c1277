-- Packed strings give themselves back, one by one from the front.
use Rattle.std.proofs.Common.{◌≡◌, ◌≢◌, ℕ, ◌+◌, ◌*◌, ◌/◌, ◌%◌, ◌^◌, ◌<◌, ◌≤◌, zero, suc, Bool, true, false, List, [], ◌∷◌, ◌++◌, length, take, drop, refl, sym, ◌∙◌, ap, subst, append_assoc, arith, length-append}
use Rattle.std.specs.Prelude.{if◌then◌else◌, nat_lt}
use Rattle.std.specs.Int.{byte_at, from_be_bytes}
use Rattle.std.specs.Slice.Scan.{big_endian}
use Rattle.std.specs.List.{All}
use Rattle.std.proofs.lemmas.Bool.{ltb-true, ne_eqb, lt-ltb, le-ltb}
use Rattle.std.proofs.lemmas.List.{take_at, drop_at, append-nil}
use Rattle.std.proofs.lemmas.List.Elements.{All-head, All-tail, All-push}
use Rattle.std.proofs.lemmas.Nat.{from_be_bytes-to_be_bytes_8}
use mir.Syntax.{w64}
use Rattle.dname.specs.Pack.{HasPlace, three_of, nine_of, head_of, packed, head_size, size_at, first_piece, behind_first, pieces_within, pieces_of, IsPacked, BeginsWithPiece}

-- ---- lengths

-- a length in three octets reads as that length
three_octets : (n : ℕ) → n ≡ (n / 65536 * 256 + n / 256 % 256) * 256 + n % 256
three_octets n = omega arith

eight_octets : (a b c d e f g h : ℕ) → big_endian 0 (a ∷ b ∷ c ∷ d ∷ e ∷ f ∷ g ∷ h ∷ []) ≡ from_be_bytes w64 (a ∷ b ∷ c ∷ d ∷ e ∷ f ∷ g ∷ h ∷ [])
eight_octets a b c d e f g h = omega arith

-- what a length's octets say, whatever follows them
abbrev Reads : ℕ → List ℕ → List ℕ → Type 0
Reads size head rest = (head_size (head ++ rest) ≡ length head) × (size_at (head ++ rest) ≡ size)

reads_three : (size : ℕ) (rest : List ℕ) → size < 16711680 → Reads size (three_of size) rest
reads_three size rest few = rw (ne_eqb (size / 65536) 255 (λ is. omega (arith, few, is))) (refl, sym (three_octets size))

reads_nine : (size : ℕ) (rest : List ℕ) → size < 2 ^ 63 → Reads size (nine_of size) rest
reads_nine size rest fits =
    (refl, eight_octets (byte_at 7 size) (byte_at 6 size) (byte_at 5 size) (byte_at 4 size) (byte_at 3 size) (byte_at 2 size) (byte_at 1 size) (byte_at 0 size) ∙ from_be_bytes-to_be_bytes_8 size (omega (arith, fits)))

reads : (size : ℕ) (rest : List ℕ) → size < 2 ^ 63 → Reads size (head_of size) rest
reads size rest fits = by (nat_lt size 16711680) refl
  where
    by : (b : Bool) → nat_lt size 16711680 ≡ b → Reads size (if b then three_of size else nine_of size) rest
    by true few = reads_three size rest (ltb-true size 16711680 few)
    by false many = reads_nine size rest fits

pub length-head : (size : ℕ) → (3 ≤ length (head_of size)) × (length (head_of size) ≤ 9)
length-head size = by (nat_lt size 16711680)
  where
    by : (b : Bool) → (3 ≤ length (if b then three_of size else nine_of size)) × (length (if b then three_of size else nine_of size) ≤ 9)
    by true = (omega arith, omega arith)
    by false = (omega arith, omega arith)

-- ---- one string

-- a string after its length is the first, and behind it lies what follows
record Splits (piece rest octets : List ℕ) : Type 0 where
  whole : drop (head_size octets) octets ≡ piece ++ rest
  first : first_piece octets ≡ piece
  behind : behind_first octets ≡ rest

splits : (piece rest : List ℕ) → HasPlace piece → Splits piece rest (head_of (length piece) ++ (piece ++ rest))
splits piece rest fits =
    let says = reads (length piece) (piece ++ rest) fits in
    let whole = drop_at (head_of (length piece)) (piece ++ rest) _ (sym says.0) in
    record {
      whole = whole;
      first = ap (λ octets. take (size_at (head_of (length piece) ++ (piece ++ rest))) octets) whole ∙ take_at piece rest _ (sym says.1);
      behind = ap (λ octets. drop (size_at (head_of (length piece) ++ (piece ++ rest))) octets) whole ∙ drop_at piece rest _ (sym says.1);
    }

some_octets : (piece rest : List ℕ) → 1 ≤ length (head_of (length piece) ++ (piece ++ rest))
some_octets piece rest = omega (arith, length-append (head_of (length piece)) (piece ++ rest), (length-head (length piece)).0)

-- ---- all strings

-- each string takes three octets at least
length-packed : (pieces : List (List ℕ)) → length pieces ≤ length (packed pieces)
length-packed [] = omega arith
length-packed (piece ∷ rest) = omega (arith, some_octets piece (packed rest), length-append (head_of (length piece)) (piece ++ packed rest), length-append piece (packed rest), (length-head (length piece)).0, length-packed rest)

first_of : (n : ℕ) (octets : List ℕ) → 1 ≤ length octets → pieces_within (suc n) octets ≡ first_piece octets ∷ pieces_within n (behind_first octets)
first_of n [] some = absurd (omega arith)
first_of n (octet ∷ rest) some = refl

pieces_within-step : (n : ℕ) (piece octets : List ℕ) → HasPlace piece → pieces_within (suc n) (head_of (length piece) ++ (piece ++ octets)) ≡ piece ∷ pieces_within n octets
pieces_within-step n piece octets fits =
    let is = splits piece octets fits in
    first_of n (head_of (length piece) ++ (piece ++ octets)) (some_octets piece octets)
    ∙ ap (λ front. front ∷ pieces_within n (behind_first (head_of (length piece) ++ (piece ++ octets)))) is.first
    ∙ ap (λ rest. piece ∷ pieces_within n rest) is.behind

pieces_within-packed : (n : ℕ) (pieces : List (List ℕ)) → All HasPlace pieces → length pieces ≤ n → pieces_within n (packed pieces) ≡ pieces
pieces_within-packed zero [] each enough = refl
pieces_within-packed (suc n) [] each enough = refl
pieces_within-packed zero (piece ∷ rest) each enough = absurd (omega arith)
pieces_within-packed (suc n) (piece ∷ rest) each enough =
    pieces_within-step n piece (packed rest) (All-head HasPlace piece rest each)
    ∙ ap (λ pieces. piece ∷ pieces) (pieces_within-packed n rest (All-tail HasPlace piece rest each) (omega arith))

-- packed strings give themselves back
pub pieces_of-packed : (pieces : List (List ℕ)) → All HasPlace pieces → pieces_of (packed pieces) ≡ pieces
pieces_of-packed pieces each = pieces_within-packed (length (packed pieces)) pieces each (length-packed pieces)

pub record IsPackOf (octets : List ℕ) (pieces : List (List ℕ)) : Type 0 where
  pub packed : IsPacked octets
  pub pieces_are : pieces_of octets ≡ pieces

-- octets that spell strings are packed and give them back
pub is_pack_of : (octets : List ℕ) (pieces : List (List ℕ)) → octets ≡ packed pieces → All HasPlace pieces → IsPackOf octets pieces
is_pack_of octets pieces spelled each =
    let back = ap pieces_of spelled ∙ pieces_of-packed pieces each in
    record {
      packed = record { spelled = spelled ∙ ap packed (sym back); each = subst (All HasPlace) (sym back) each };
      pieces_are = back;
    }

packed-append : (front behind : List (List ℕ)) → packed (front ++ behind) ≡ packed front ++ packed behind
packed-append [] behind = refl
packed-append (piece ∷ rest) behind =
    ap (λ octets. head_of (length piece) ++ octets) (ap (λ octets. piece ++ octets) (packed-append rest behind) ∙ sym (append_assoc piece (packed rest) (packed behind)))
    ∙ sym (append_assoc (head_of (length piece)) (piece ++ packed rest) (packed behind))

-- a string after its length, put behind packed ones, is the last of them
pub pushed : (before after piece : List ℕ) → IsPacked before → HasPlace piece → after ≡ before ++ (head_of (length piece) ++ piece) → IsPackOf after (pieces_of before ++ piece ∷ [])
pushed before after piece is fits spelled =
    let last : head_of (length piece) ++ piece ≡ packed (piece ∷ []) = ap (λ octets. head_of (length piece) ++ octets) (sym (append-nil piece)) in
    is_pack_of after (pieces_of before ++ piece ∷ [])
    (spelled ∙ ap (λ octets. octets ++ (head_of (length piece) ++ piece)) is.spelled ∙ ap (λ octets. packed (pieces_of before) ++ octets) last ∙ sym (packed-append (pieces_of before) (piece ∷ [])))
    (All-push HasPlace (pieces_of before) piece is.each fits)

-- the octets of a length as they are written
pub head_three : (size : ℕ) → size < 16711680 → three_of size ≡ head_of size
head_three size few = rw (lt-ltb size 16711680 few) refl

pub head_nine : (size : ℕ) → 16711680 ≤ size → nine_of size ≡ head_of size
head_nine size many = rw (le-ltb size 16711680 many) refl

-- octets that have a string have the octets of its length and all of it, and what follows it is packed
pub record SplitsPiece (octets : List ℕ) : Type 0 where
  pub some : 1 ≤ length octets
  pub head : head_size octets ≤ length octets
  pub whole : size_at octets ≤ length (drop (head_size octets) octets)
  pub steps : (piece rest : List ℕ) → piece ≡ first_piece octets → rest ≡ behind_first octets → BeginsWithPiece octets piece rest

splits_packed : (pieces : List (List ℕ)) → All HasPlace pieces → pieces ≢ [] → SplitsPiece (packed pieces)
splits_packed [] each some = absurd (some refl)
splits_packed (first ∷ others) each some =
    let fits = All-head HasPlace first others each in
    let says = reads (length first) (first ++ packed others) fits in
    let is = splits first (packed others) fits in
    record {
      some = some_octets first (packed others);
      head = omega (arith, says.0, length-append (head_of (length first)) (first ++ packed others));
      whole = omega (arith, says.1, ap length is.whole, length-append first (packed others));
      steps = λ piece rest front behind.
          let left = is_pack_of rest others (behind ∙ is.behind) (All-tail HasPlace first others each) in
          record {
            packed = left.packed;
            pieces = pieces_of-packed (first ∷ others) each ∙ ap (λ p. p ∷ others) (sym (front ∙ is.first)) ∙ ap (λ ps. piece ∷ ps) (sym left.pieces_are);
          };
    }

pub splits_piece : (octets : List ℕ) → IsPacked octets → pieces_of octets ≢ [] → SplitsPiece octets
splits_piece octets is some = subst SplitsPiece (sym is.spelled) (splits_packed (pieces_of octets) is.each some)

pieces_within-few : (n : ℕ) (octets : List ℕ) → length (pieces_within n octets) ≤ n
pieces_within-few zero octets = omega arith
pieces_within-few (suc n) [] = omega arith
pieces_within-few (suc n) (octet ∷ rest) = omega (arith, pieces_within-few n (behind_first (octet ∷ rest)))

-- no more strings than octets
pub length-pieces_of : (octets : List ℕ) → length (pieces_of octets) ≤ length octets
length-pieces_of octets = pieces_within-few (length octets) octets
