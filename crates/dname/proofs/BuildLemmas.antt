-- How many octets a wire form takes with a label more, and with its letters lowered.
use Rattle.std.proofs.Common.{◌≡◌, ◌+◌, List, [], ◌∷◌, ◌++◌, length, map, refl, arith, length-append}
use Rattle.std.proofs.lemmas.List.{length-map}
use Rattle.std.specs.Char.{to_ascii_lowercase}
use Rattle.dname.specs.Name.{Label, lowered, wire_of}

-- a label more takes its octets and its length octet
pub length-wire_of-push : (labels : List Label) (label : Label) → length (wire_of (labels ++ label ∷ [])) ≡ length (wire_of labels) + 1 + length label
length-wire_of-push [] label = omega (arith, length-append label (0 ∷ []))
length-wire_of-push (first ∷ rest) label =
    omega (arith, length-wire_of-push rest label, length-append first (wire_of (rest ++ label ∷ [])), length-append first (wire_of rest))

-- capitals take as many octets
pub length-wire_of-lowered : (labels : List Label) → length (wire_of (map lowered labels)) ≡ length (wire_of labels)
length-wire_of-lowered [] = refl
length-wire_of-lowered (label ∷ rest) =
    omega (arith, length-wire_of-lowered rest, length-map label to_ascii_lowercase, length-append label (wire_of rest), length-append (lowered label) (wire_of (map lowered rest)))
