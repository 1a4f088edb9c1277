-- What is written is read back in one way.
use Rattle.std.proofs.Common.{◌≡◌, ℕ, ◌^◌, ◌<◌, List, [], ◌∷◌, ◌++◌, length, take, drop, refl, sym, ◌∙◌, ap, arith, append_assoc}
use Rattle.std.specs.List.{All, flat_map}
use Rattle.std.proofs.lemmas.List.{take_at, drop_at}
use Rattle.std.proofs.lemmas.List.Elements.{All-head, All-tail}
use Rattle.byteorder.specs.Endian.{big_bytes, big_number}
use Rattle.byteorder.specs.Numbers.{big_number-reads_back, length-bytes_high_first}
use Rattle.dname.specs.Read.{IsWireForm}
use Rattle.audit_source.specs.Source.{Entry, IsEntry, counted, entry_spelling, run_spelling}

pub three_and_rest : (x y z rest : List ℕ) → (x ++ (y ++ z)) ++ rest ≡ x ++ (y ++ (z ++ rest))
three_and_rest x y z rest = append_assoc x (y ++ z) rest ∙ ap (λ l. x ++ l) (append_assoc y z rest)

pub one_number : (size x y : ℕ) (rest rest' : List ℕ) → x < 256 ^ size → y < 256 ^ size → big_bytes size x ++ rest ≡ big_bytes size y ++ rest' → (x ≡ y) × (rest ≡ rest')
one_number size x y rest rest' fits fits' same = (
  sym (big_number-reads_back size x rest fits) ∙ ap (big_number size) same ∙ big_number-reads_back size y rest' fits',
  sym (drop_at (big_bytes size x) rest size (length-bytes_high_first size x)) ∙ ap (drop size) same
      ∙ drop_at (big_bytes size y) rest' size (length-bytes_high_first size y),
)

pub one_counted : (size : ℕ) (xs ys rest rest' : List ℕ) → length xs < 256 ^ size → length ys < 256 ^ size → counted size xs ++ rest ≡ counted size ys ++ rest' → (xs ≡ ys) × (rest ≡ rest')
one_counted size xs ys rest rest' fits fits' same =
    let regrouped : big_bytes size (length xs) ++ (xs ++ rest) ≡ big_bytes size (length ys) ++ (ys ++ rest') =
    sym (append_assoc (big_bytes size (length xs)) xs rest) ∙ same ∙ append_assoc (big_bytes size (length ys)) ys rest' in
    let parts = one_number size (length xs) (length ys) (xs ++ rest) (ys ++ rest') fits fits' regrouped in (
      sym (take_at xs rest (length xs) refl) ∙ ap (take (length xs)) parts.1 ∙ take_at ys rest' (length xs) (sym parts.0),
      sym (drop_at xs rest (length xs) refl) ∙ ap (drop (length xs)) parts.1 ∙ drop_at ys rest' (length xs) (sym parts.0),
    )

pub form_fits : (form : List ℕ) → IsWireForm form → length form < 256 ^ 2
form_fits form wire = omega (arith, wire.fits)

pub one_form : (form form' rest rest' : List ℕ) → IsWireForm form → IsWireForm form' → counted 2 form ++ rest ≡ counted 2 form' ++ rest' → (form ≡ form') × (rest ≡ rest')
one_form form form' rest rest' wire wire' same = one_counted 2 form form' rest rest' (form_fits form wire) (form_fits form' wire') same

pub one_entry : (a b : Entry) (rest rest' : List ℕ) → IsEntry a → IsEntry b → entry_spelling a ++ rest ≡ entry_spelling b ++ rest' → (a ≡ b) × (rest ≡ rest')
one_entry a b rest rest' valid valid' same =
    let regrouped = sym (three_and_rest (counted 2 a.owner) (big_bytes 2 a.rtype) (counted 2 a.octets) rest) ∙ same
    ∙ three_and_rest (counted 2 b.owner) (big_bytes 2 b.rtype) (counted 2 b.octets) rest' in
    let owners = one_form a.owner b.owner (big_bytes 2 a.rtype ++ (counted 2 a.octets ++ rest)) (big_bytes 2 b.rtype ++ (counted 2 b.octets ++ rest')) valid.owner valid'.owner regrouped in
    let types = one_number 2 a.rtype b.rtype (counted 2 a.octets ++ rest) (counted 2 b.octets ++ rest') valid.rtype_fits valid'.rtype_fits owners.1 in
    let third = one_counted 2 a.octets b.octets rest rest' valid.octets_fit valid'.octets_fit types.1 in
    (λ i. record { owner = owners.0 i; rtype = types.0 i; octets = third.0 i }, third.1)

-- as many of them
pub same_entries : (xs ys : List Entry) (rest rest' : List ℕ) → All IsEntry xs → All IsEntry ys → length xs ≡ length ys → flat_map entry_spelling xs ++ rest ≡ flat_map entry_spelling ys ++ rest' → (xs ≡ ys) × (rest ≡ rest')
same_entries [] [] rest rest' valid valid' number same = (refl, same)
same_entries [] (y ∷ ys) rest rest' valid valid' number same = absurd (omega (arith, number))
same_entries (x ∷ xs) [] rest rest' valid valid' number same = absurd (omega (arith, number))
same_entries (x ∷ xs) (y ∷ ys) rest rest' valid valid' number same =
    let regrouped = sym (append_assoc (entry_spelling x) (flat_map entry_spelling xs) rest) ∙ same
    ∙ append_assoc (entry_spelling y) (flat_map entry_spelling ys) rest' in
    let one = one_entry x y (flat_map entry_spelling xs ++ rest) (flat_map entry_spelling ys ++ rest') (All-head IsEntry x xs valid) (All-head IsEntry y ys valid') regrouped in
    let others = same_entries xs ys rest rest' (All-tail IsEntry x xs valid) (All-tail IsEntry y ys valid') (omega (arith, number)) one.1 in
    (λ i. one.0 i ∷ others.0 i, others.1)

-- fewer of them are a front, behind which the next one stands
pub front_entries : (front xs : List Entry) (rest rest' : List ℕ) → All IsEntry front → All IsEntry xs → length front < length xs → flat_map entry_spelling front ++ rest ≡ flat_map entry_spelling xs ++ rest' → (next : Entry) × (more : List Entry) × IsEntry next × (rest ≡ entry_spelling next ++ (flat_map entry_spelling more ++ rest'))
front_entries front [] rest rest' valid valid' fewer same = absurd (omega (arith, fewer))
front_entries [] (x ∷ xs) rest rest' valid valid' fewer same =
    (x, xs, All-head IsEntry x xs valid', same ∙ append_assoc (entry_spelling x) (flat_map entry_spelling xs) rest')
front_entries (y ∷ front) (x ∷ xs) rest rest' valid valid' fewer same =
    let regrouped = sym (append_assoc (entry_spelling y) (flat_map entry_spelling front) rest) ∙ same
    ∙ append_assoc (entry_spelling x) (flat_map entry_spelling xs) rest' in
    let one = one_entry y x (flat_map entry_spelling front ++ rest) (flat_map entry_spelling xs ++ rest') (All-head IsEntry y front valid) (All-head IsEntry x xs valid') regrouped in
    front_entries front xs rest rest' (All-tail IsEntry y front valid) (All-tail IsEntry x xs valid') (omega (arith, fewer)) one.1

pub one_run : (input output input' output' rest rest' : List ℕ) → length input < 2 ^ 32 → length output < 2 ^ 32 → length input' < 2 ^ 32 → length output' < 2 ^ 32 → run_spelling input output ++ rest ≡ run_spelling input' output' ++ rest' → (input ≡ input') × (output ≡ output') × (rest ≡ rest')
one_run input output input' output' rest rest' a b a' b' same =
    let regrouped = sym (append_assoc (counted 4 input) (counted 4 output) rest) ∙ same ∙ append_assoc (counted 4 input') (counted 4 output') rest' in
    let first = one_counted 4 input input' (counted 4 output ++ rest) (counted 4 output' ++ rest') a a' regrouped in
    let second = one_counted 4 output output' rest rest' b b' first.1 in
    (first.0, second.0, second.1)
