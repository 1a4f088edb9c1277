-- The octets of a wildcard above a name.
use Rattle.std.proofs.Common.{◌≡◌, ℕ, zero, suc, ◌+◌, ◌-◌, ◌<◌, ◌≤◌, Bool, true, false, if◌then◌else◌, List, [], ◌∷◌, ◌++◌, length, take, drop, slice_index_or, sym, ◌∙◌, ap, subst, arith}
use Rattle.std.specs.List.{All}
use Rattle.std.specs.Str.{bytes_eq}
use Rattle.std.specs.Int.Digits.{number_from_digits}
use Rattle.std.proofs.lemmas.List.{length-append, length-map}
use Rattle.std.proofs.Math.Seq.{take-append_seam}
use Rattle.dname.specs.Name.{Label, IsLabel, IsName, wire_of, lowered, asterisk, without_asterisk}
use Rattle.nsec3_hash.specs.Base32Hex.{IsHash, text_of, values_of, digit_of}
use Rattle.nsec3_hash.proofs.NumeralLemmas.{length-values_of}
use Rattle.nsec3_hash.proofs.TextLemmas.{lowered-text_of}
use Rattle.intake.specs.Stored.{IsHashedOwner}

wire_drop : (k : ℕ) (name : List Label) → length (wire_of (drop k name)) ≤ length (wire_of name)
wire_drop zero name = omega arith
wire_drop (suc k) [] = omega arith
wire_drop (suc k) (label ∷ rest) = let below = wire_drop k rest in let long = length-append label (wire_of rest) in omega (arith, below, long)

above : (k : ℕ) (name : List Label) → All IsLabel name → k < length name → length (wire_of (drop (suc k) name)) + 2 ≤ length (wire_of name)
above k [] each below = absurd (omega arith)
above k (label ∷ rest) each below =
    let first = (each 0 label (omega arith)).size.0 in
    let less = wire_drop k rest in
    let long = length-append label (wire_of rest) in
    omega (arith, first, less, long)

-- a name's last labels, fewer than it has, are two octets shorter at least
pub wire_above : (name : List Label) (labels : ℕ) → IsName name → labels < length name → length (wire_of (drop (length name - labels) name)) + 2 ≤ length (wire_of name)
wire_above name labels is below =
    let e : suc (length name - labels - 1) ≡ length name - labels = omega arith in
    subst (λ (n : ℕ). length (wire_of (drop n name)) + 2 ≤ length (wire_of name)) e (above (length name - labels - 1) name is.each (omega arith))

pub asterisk_less : (name : List Label) → length (without_asterisk name) ≤ length name
asterisk_less [] = omega arith
asterisk_less (label ∷ rest) = less (bytes_eq label asterisk)
  where
    less : (b : Bool) → length (if b then rest else label ∷ rest) ≤ length (label ∷ rest)
    less true = omega arith
    less false = omega arith

-- ---- owners of NSEC3 records

lowered_label : (label : Label) (rest : List Label) → IsName (label ∷ rest) → lowered label ≡ label
lowered_label label rest is = (is.each 0 label (omega arith)).lower

-- the first label of a name, where it has 32 octets
pub hashed_label : (name : List Label) (label : Label) (rest : List Label) (wire : List ℕ) → name ≡ label ∷ rest → wire ≡ wire_of name → slice_index_or wire 0 0 ≡ 32 → take 32 (drop 1 wire) ≡ label
hashed_label name label rest wire name-is wire-is size =
    let whole : wire ≡ length label ∷ label ++ wire_of rest = wire-is ∙ ap wire_of name-is in
    let long : length label ≡ 32 = sym (ap (λ w. slice_index_or w 0 0) whole) ∙ size in
    ap (λ w. take 32 (drop 1 w)) whole ∙ ap (λ n. take n (label ++ wire_of rest)) (sym long) ∙ take-append_seam label (wire_of rest)

-- the owner is that of the hash, whose text is the label
pub hashed : (owner zone : List Label) (label : Label) (hash : List ℕ) → IsName owner → owner ≡ label ∷ zone → IsHash hash → text_of hash ≡ lowered label → IsHashedOwner owner zone hash
hashed owner zone label hash is owner-is hash-is text = record {
  hash_is = hash-is;
  owner_is = owner-is ∙ ap (λ l. l ∷ zone) (sym (lowered_label label zone (subst IsName owner-is is)) ∙ sym text);
}

-- the first label of a hashed owner is the hash's text, and the others are the zone
pub unhashed : (owner zone rest : List Label) (label : Label) (hash : List ℕ) → owner ≡ label ∷ rest → IsHashedOwner owner zone hash → (rest ≡ zone) × (text_of hash ≡ lowered label) × (length label ≡ 32)
unhashed owner zone rest label hash owner-is of =
    let both : label ∷ rest ≡ text_of hash ∷ zone = sym owner-is ∙ of.owner_is in
    let labels : label ≡ text_of hash = cc in
    let rests : rest ≡ zone = cc in
    let long : length label ≡ 32 = ap length labels ∙ length-text_of hash in
    (rests, sym (lowered-text_of hash) ∙ ap lowered (sym labels), long)
  where
    length-text_of : (hash : List ℕ) → length (text_of hash) ≡ 32
    length-text_of hash = length-map (values_of 32 (number_from_digits 256 hash)) digit_of ∙ length-values_of 32 (number_from_digits 256 hash)
