-- Marks of keys, by which spans are sought: a key with a lesser mark goes before one with a greater.
use Rattle.std.specs.Prelude.{ℕ, ◌+◌, ◌*◌, zero, suc, nat_lt, if◌then◌else◌, List, [], ◌∷◌, reverse}
use Rattle.std.specs.declared.cmp.Ordering.{Ordering}
use Rattle.std.specs.declared.cmp.Ordering.TheVariants.{Less, Equal, Greater}
use Rattle.dname.specs.Name.{Label, label_cmp}

-- the number of a, and of n octets of 255 after it
abbrev pub topped : ℕ → ℕ → ℕ
topped zero a = a
topped (suc n) a = topped n (a * 256 + 255)

-- the number of a, and of the first n of the numbers after it, zeros where there are no more. From one that is no octet on all
-- count as 255, so that it never falls in the order of lists, whatever is in them.
abbrev pub spelled : ℕ → ℕ → List ℕ → ℕ
spelled zero a octets = a
spelled (suc n) a [] = spelled n (a * 256) []
spelled (suc n) a (octet ∷ rest) =
    if nat_lt octet 256 then spelled n (a * 256 + octet) rest else topped (suc n) a

-- a hash: its first eight octets
abbrev pub hash_mark : List ℕ → ℕ
hash_mark hash = spelled 8 0 hash

-- before all, at the label, or after all
abbrev pub by_label : Ordering → ℕ → ℕ
by_label Less here = 0
by_label Equal here = here
by_label Greater here = topped 8 0

-- of labels counted from the right, those in front first: the first eight octets of the label behind these; 0 where the labels
-- come before all that have them in front, and the greatest number where they come after
abbrev pub mark_behind : List Label → List Label → ℕ
mark_behind [] [] = 0
mark_behind [] (label ∷ labels) = spelled 8 0 label
mark_behind (label ∷ front) [] = 0
mark_behind (label ∷ front) (other ∷ labels) = by_label (label_cmp other label) (mark_behind front labels)

-- a name, reckoned from a zone's apex
abbrev pub name_mark : List Label → List Label → ℕ
name_mark apex name = mark_behind (reverse apex) (reverse name)
