-- The names above a name: common enclosers, next closer names and ancestors.
use Rattle.std.specs.Prelude.{◌≡◌, ◌⊎◌, ◌-◌, ℕ, Bool, ◌||◌, if◌then◌else◌, suc, List, [], ◌∷◌, length, drop}
use Rattle.dname.specs.Name.{Label, IsUnder}
use Rattle.dname.specs.Tests.{is_under}

-- a name's last labels, so many of them
abbrev pub last_labels : List Label → ℕ → List Label
last_labels name n = drop (length name - n) name

-- ---- common enclosers

-- the longest name that the name is under, and one of two others too. Where the two are the owner and the next owner of
-- an NSEC that covers the name, and the name doesn't exist, it is the closest encloser (RFC 4592, section 3.3.1)
pub record IsCommonEncloser (name owner next encloser : List Label) : Type 0 where
  pub above : IsUnder name encloser
  pub shared : IsUnder owner encloser ⊎ IsUnder next encloser
  pub longest :
      (another : List Label) → IsUnder name another → IsUnder owner another ⊎ IsUnder next another
      → IsUnder encloser another

-- the longest of the name and the names above it that passes a test; the root isn't asked
abbrev pub longest_with : (List Label → Bool) → List Label → List Label
longest_with test [] = []
longest_with test (label ∷ rest) = if test (label ∷ rest) then label ∷ rest else longest_with test rest

-- the common encloser, computed
abbrev pub encloser_of : List Label → List Label → List Label → List Label
encloser_of name owner next = longest_with (λ above. is_under owner above || is_under next above) name

-- ---- next closer names

-- the name that is one label longer than the encloser, and that the name is at or below (RFC 5155, section 1.3)
pub record IsNextCloser (name encloser closer : List Label) : Type 0 where
  pub above : IsUnder name closer
  pub one_more : (label : Label) × (closer ≡ label ∷ encloser)

-- the next closer name, computed
abbrev pub next_closer_of : List Label → List Label → List Label
next_closer_of name encloser = last_labels name (suc (length encloser))

-- ---- ancestors

-- the names above a name that are at or below the apex, the longest first
abbrev pub ancestors : List Label → List Label → List (List Label)
ancestors [] apex = []
ancestors (label ∷ rest) apex = if is_under rest apex then rest ∷ ancestors rest apex else []
