-- Names of which the end is replaced.
use Rattle.std.proofs.Common.{◌≡◌, ℕ, ◌+◌, ◌-◌, ◌<◌, ◌≤◌, true, false, List, [], ◌∷◌, ◌++◌, length, map, take, None, Some, refl, sym, ◌∙◌, ap, arith, length-append, append_assoc}
use Rattle.std.specs.Prelude.{nat_le}
use Rattle.std.specs.List.{All}
use Rattle.std.proofs.Math.Seq.{take-append_seam}
use Rattle.std.proofs.lemmas.Bool.Decides.{nat_tests}
use Rattle.std.proofs.lemmas.List.Elements.{All-head, All-tail, All-append, All-take}
use Rattle.dname.specs.Name.{Label, IsLabel, IsName, IsUnder, lowered, wire_of}
use Rattle.dname.specs.Read.{written, IsWireForm, IsReadFrom}
use Rattle.dname.proofs.WireLemmas.{sizes_of}
use Rattle.resolver.specs.Target.{replaced, target_of}

-- ---- the end of a name

pub wire_of-append : (front rest : List Label) → wire_of (front ++ rest) ≡ written front ++ wire_of rest
wire_of-append [] rest = refl
wire_of-append (label ∷ front) rest =
    ap (λ octets. length label ∷ octets)
    (ap (λ octets. label ++ octets) (wire_of-append front rest) ∙ sym (append_assoc label (written front) (wire_of rest)))

pub front_taken : {A : Type 0} (whole front end : List A) → whole ≡ front ++ end → take (length whole - length end) whole ≡ front
front_taken whole front end is =
    let size : length whole - length end ≡ length front = omega (arith, ap length is, length-append front end) in
    (λ i. take (size i) (is i)) ∙ take-append_seam front end

-- the octets in front of the end are those of the labels in front of it
pub front_octets : (name owner : List Label) (octets end : List ℕ) → IsUnder name owner → octets ≡ wire_of name → end ≡ wire_of owner
    → (length end ≤ length octets) × (take (length octets - length end) octets ≡ written (take (length name - length owner) name))
front_octets name owner octets end under is is' =
    let front = under.0 in
    let whole : octets ≡ written front ++ end = is ∙ ap wire_of under.1 ∙ wire_of-append front owner ∙ ap (λ octets. written front ++ octets) (sym is') in (
      omega (arith, ap length whole, length-append (written front) end),
      front_taken octets (written front) end whole ∙ ap written (sym (front_taken name front owner under.1)),
    )

-- ---- the end replaced

lowered_same : (labels : List Label) → All IsLabel labels → map lowered labels ≡ labels
lowered_same [] each = refl
lowered_same (label ∷ rest) each = λ i. (All-head IsLabel label rest each).lower i ∷ lowered_same rest (All-tail IsLabel label rest each) i

-- the labels in front of a name's end, and another name behind them
module _ (name owner suffix : List Label) (front end : List ℕ) (is_name : IsName name) (is_suffix : IsName suffix)
    (is : front ≡ written (take (length name - length owner) name)) (is' : end ≡ wire_of suffix) where
  joined_is : front ++ end ≡ wire_of (replaced name owner suffix)
  joined_is = (λ i. is i ++ is' i) ∙ sym (wire_of-append (take (length name - length owner) name) suffix)

  labels_are : All IsLabel (replaced name owner suffix)
  labels_are = All-append IsLabel (take (length name - length owner) name) suffix (All-take IsLabel (length name - length owner) name is_name.each) is_suffix.each

  size_is : length (wire_of (replaced name owner suffix)) ≡ length front + length end
  size_is = sym (ap length joined_is) ∙ length-append front end

  pub too_long : 255 < length front + length end → None ≡ target_of name owner suffix
  too_long long =
      let no_room : nat_le (length (wire_of (replaced name owner suffix))) 255 ≡ false = rw size_is (grind (arith, nat_tests)) in
      rw no_room refl

  pub wire_form : (octets : List ℕ) → octets ≡ front ++ end → length front + length end ≤ 255 → IsWireForm octets
  wire_form octets joined few = record {
    labels = replaced name owner suffix;
    spelled = joined ∙ joined_is;
    sizes = sizes_of (replaced name owner suffix) labels_are;
    fits = omega (arith, ap length joined, length-append front end, few);
  }

  pub made : (octets : List ℕ) (result : List Label) → octets ≡ front ++ end → length front + length end ≤ 255 → IsReadFrom octets result → Some result ≡ target_of name owner suffix
  made octets result joined few read =
      let labels = replaced name owner suffix in
      let room : nat_le (length (wire_of labels)) 255 ≡ true = rw size_is (grind (arith, nat_tests)) in
      rw room (ap Some (read labels (joined ∙ joined_is) (sizes_of labels labels_are) ∙ lowered_same labels labels_are))
