-- No public clause cites this module. How the names end that are passed: few octets tell that most names are below none of them.
use Rattle.std.specs.Prelude.{◌≡◌, ℕ, ◌+◌, ◌-◌, ◌*◌, ◌%◌, Bool, true, false, nat_lt, if◌then◌else◌, List, [], ◌∷◌, length, get_or, set, replicate}
use Rattle.std.specs.List.{All}
use Rattle.dname.specs.Name.{Label, wire_of}
use Rattle.dname.specs.Tests.{is_under}

-- how many marks there are
abbrev pub MARKS : ℕ
MARKS = 256

-- a number that the two octets before the last give
abbrev pub end_mark : List ℕ → ℕ
end_mark wire =
    if nat_lt (length wire) 3 then 0
    else (get_or wire (length wire - 3) 0 * 31 + get_or wire (length wire - 2) 0) % MARKS

-- the marks, and that of one name more; all names are below the root
abbrev pub marked : List Bool → List Label → List Bool
marked marks [] = replicate MARKS true
marked marks (label ∷ rest) = set marks (end_mark (wire_of (label ∷ rest))) true

-- the name ends as one of those of which the marks are
abbrev pub ends_alike : List Bool → List Label → Bool
ends_alike marks name = get_or marks (end_mark (wire_of name)) false

-- whatever is at or below one of the names ends as one of them
pub record AreMarksOf (marks : List Bool) (names : List (List Label)) : Type 0 where
  pub size : length marks ≡ MARKS
  pub below :
      All (λ top. (name : List Label) → is_under name top ≡ true → ends_alike marks name ≡ true)
      names
