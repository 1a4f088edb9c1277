-- No public clause cites this module. Which of some octets are new as they come.
use Rattle.std.specs.Prelude.{ℕ, Bool, not, List, [], ◌∷◌, ◌++◌}
use Rattle.std.specs.List.{list_any}
use Rattle.dname.specs.Tests.{same_octets}

-- of each whether no earlier one is equal, those included that came before
abbrev pub news_after : List (List ℕ) → List (List ℕ) → List Bool
news_after before [] = []
news_after before (octets ∷ more) = not (list_any (same_octets octets) before) ∷ news_after (before ++ octets ∷ []) more

abbrev pub news : List (List ℕ) → List Bool
news octets = news_after [] octets
