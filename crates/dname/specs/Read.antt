-- What octets say of a name that begins at their front, with no pointer (RFC 1035, section 3.1).
use Rattle.std.specs.Prelude.{◌≡◌, ℕ, ◌+◌, ◌<◌, ◌≤◌, List, [], ◌∷◌, ◌++◌, length, map}
use Rattle.std.specs.List.{All}
use Rattle.dname.specs.Name.{Label, HasLabelLength, lowered, wire_of}
use Rattle.dname.specs.declared.name_fault.NameFault.{NameFault}
use Rattle.dname.specs.declared.name_fault.NameFault.TheVariants.{Pointer, LabelTooLong, NameTooLong, Short}

-- the octets begin with the wire form of the name, of so many octets, in whatever case its letters come
pub record Spells (octets : List ℕ) (name : List Label) (taken : ℕ) : Type 0 where
  pub labels : List Label
  pub rest : List ℕ
  pub spelled : octets ≡ wire_of labels ++ rest
  pub sizes : All HasLabelLength labels
  pub size : taken ≡ length (wire_of labels)
  pub fits : taken ≤ 255
  pub lower : name ≡ map lowered labels

-- each label after its length octet, with no end (RFC 1035, section 3.1)
abbrev pub written : List Label → List ℕ
written [] = []
written (label ∷ rest) = length label ∷ label ++ written rest

-- after labels of so many octets, the rest can't be read as a label or the end, for this fault
abbrev pub IsFaultAt : NameFault → ℕ → List ℕ → Type 0
IsFaultAt Pointer before [] = ⊥
IsFaultAt Pointer before (size ∷ rest) = 192 ≤ size
IsFaultAt LabelTooLong before [] = ⊥
IsFaultAt LabelTooLong before (size ∷ rest) = (64 ≤ size) × (size < 192)
IsFaultAt NameTooLong before [] = ⊥
IsFaultAt NameTooLong before (size ∷ rest) =
    (1 ≤ size) × (size ≤ 63) × (254 < before + 1 + size)
IsFaultAt Short before [] = Unit {0}
IsFaultAt Short before (size ∷ rest) =
    (1 ≤ size) × (size ≤ 63) × (before + 1 + size ≤ 254) × (length rest < size)

-- the octets begin with whole labels that fit a name, and what follows has the fault
pub record StopsAt (octets : List ℕ) (fault : NameFault) : Type 0 where
  pub labels : List Label
  pub rest : List ℕ
  pub spelled : octets ≡ written labels ++ rest
  pub sizes : All HasLabelLength labels
  pub fits : length (written labels) ≤ 254
  pub faulty : IsFaultAt fault (length (written labels)) rest

-- after labels of so many octets stands a whole label of this size that fits a name, or the end, of size 0
pub record HasLabelAt (before : ℕ) (octets : List ℕ) (size : ℕ) : Type 0 where
  pub rest : List ℕ
  pub first : octets ≡ size ∷ rest
  pub short : size ≤ 63
  pub whole : size ≤ length rest
  pub fits : before + 1 + size ≤ 255
  pub room : 1 ≤ size → before + 1 + size ≤ 254

-- the octets are the wire form of some labels, in whatever case
pub record IsWireForm (octets : List ℕ) : Type 0 where
  pub labels : List Label
  pub spelled : octets ≡ wire_of labels
  pub sizes : All HasLabelLength labels
  pub fits : length octets ≤ 255

-- those labels, lowered, are the name's
abbrev pub IsReadFrom : List ℕ → List Label → Type 0
IsReadFrom octets name =
    (labels : List Label) → octets ≡ wire_of labels → All HasLabelLength labels
    → name ≡ map lowered labels
