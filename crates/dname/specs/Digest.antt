-- A number of 64 bits that goes before another only where the name does, of names under one apex.
use Rattle.std.specs.Prelude.{ℕ, ◌+◌, ◌*◌, zero, suc, List, [], ◌∷◌, drop, reverse}
use Rattle.dname.specs.Name.{Label}

-- the number that the first n octets of the label spell after a, with zero octets where it has no more
abbrev pub padded : ℕ → ℕ → Label → ℕ
padded zero a label = a
padded (suc n) a [] = padded n (a * 256) []
padded (suc n) a (octet ∷ rest) = padded n (a * 256 + octet) rest

abbrev pub first_label : List Label → Label
first_label [] = []
first_label (label ∷ labels) = label

-- of the label in front of the last k, counted from the right; 0 where there is none
abbrev pub digest_below : ℕ → List Label → ℕ
digest_below k name = padded 8 0 (first_label (drop k (reverse name)))
