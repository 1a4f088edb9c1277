-- A domain name is the list of its labels, the leftmost first, with A to Z lowered. The root has none.
use Rattle.std.specs.Prelude.{◌≡◌, ℕ, ◌<◌, ◌≤◌, if◌then◌else◌, zero, suc, List, [], ◌∷◌, ◌++◌, length, take, drop, map, reverse}
use Rattle.std.specs.List.{All}
use Rattle.std.specs.Char.{to_ascii_lowercase}
use Rattle.std.specs.Str.{bytes_eq}
use Rattle.std.specs.Ordering.{nat_cmp}
use Rattle.std.specs.Cmp.Lexicographic.{slice_cmp}
use Rattle.std.specs.declared.cmp.Ordering.{Ordering}

-- a label is a list of octets
abbrev pub Label : Type 0
Label = List ℕ

-- a label has 1 to 63 octets (RFC 1035, section 2.3.4)
abbrev pub HasLabelLength : Label → Type 0
HasLabelLength label = (1 ≤ length label) × (length label ≤ 63)

-- names compare without regard to the case of ASCII letters (RFC 4343), so a kept label has A to Z lowered
abbrev pub lowered : Label → Label
lowered label = map to_ascii_lowercase label

-- the wire form: each label after its length octet, and the root's zero octet at the end (RFC 1035, section 3.1)
abbrev pub wire_of : List Label → List ℕ
wire_of [] = 0 ∷ []
wire_of (label ∷ rest) = length label ∷ label ++ wire_of rest

-- a label as a name keeps it
pub record IsLabel (label : Label) : Type 0 where
  pub size : HasLabelLength label
  pub octets : All (λ octet. octet < 256) label
  pub lower : lowered label ≡ label

-- the labels of a name; the wire form has at most 255 octets (RFC 1035, section 2.3.4)
pub record IsName (labels : List Label) : Type 0 where
  pub each : All IsLabel labels
  pub fits : length (wire_of labels) ≤ 255

-- the name is at or below the other: its last labels are the other's (RFC 1034, section 3.1)
abbrev pub IsUnder : List Label → List Label → Type 0
IsUnder name other = (front : List Label) × (name ≡ front ++ other)

-- the longest common ancestor: both names are under it, and it is under every other such name
pub record IsCommon (name other ancestor : List Label) : Type 0 where
  pub first : IsUnder name ancestor
  pub second : IsUnder other ancestor
  pub longest : (another : List Label) → IsUnder name another → IsUnder other another
      → IsUnder ancestor another

-- labels compare as left-justified strings of octets, a missing octet before octet zero (RFC 4034, section 6.1)
abbrev pub label_cmp : Label → Label → Ordering
label_cmp = slice_cmp nat_cmp

-- canonical order: by labels from the rightmost, a missing label before every label (RFC 4034, section 6.1)
abbrev pub canonical_cmp : List Label → List Label → Ordering
canonical_cmp name other = slice_cmp label_cmp (reverse name) (reverse other)

-- the label of a wildcard, an asterisk alone (RFC 4592, section 2.1.1)
abbrev pub asterisk : Label
asterisk = 42 ∷ []

-- the labels without a leading asterisk label (RFC 4034, section 3.1.3)
abbrev pub without_asterisk : List Label → List Label
without_asterisk [] = []
without_asterisk (label ∷ rest) = if bytes_eq label asterisk then rest else label ∷ rest

-- the labels that octets spell, which a wire form gives back; at most so many
abbrev pub labels_within : ℕ → List ℕ → List Label
labels_within zero octets = []
labels_within (suc n) [] = []
labels_within (suc n) (zero ∷ rest) = []
labels_within (suc n) (suc size ∷ rest) =
    take (suc size) rest ∷ labels_within n (drop (suc size) rest)

abbrev pub labels_of : List ℕ → List Label
labels_of octets = labels_within (length octets) octets

-- the octets are the wire form of a name
pub record IsWire (octets : List ℕ) : Type 0 where
  pub spelled : octets ≡ wire_of (labels_of octets)
  pub name : IsName (labels_of octets)
