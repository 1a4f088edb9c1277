-- The line that is printed for what an audit finds.
use Rattle.std.specs.Prelude.{ℕ, List, ◌++◌, codes, decimal}
use Rattle.run_audit.specs.Clauses.{clause_number}
use Rattle.run_audit.specs.declared.finding.Finding.{Finding}
use Rattle.run_audit.specs.declared.finding.Finding.TheVariants.{Yes, Unfit, Record, Clash}

-- words, and numbers in decimal, with a blank between them, and a line feed at the end
abbrev pub finding_line : Finding → List ℕ
finding_line (Yes replies) = codes "yes " ++ decimal replies ++ codes "\n"
finding_line (Unfit clause) = codes "no unfit " ++ decimal (clause_number clause) ++ codes "\n"
finding_line (Record at used) = codes "no record " ++ decimal at ++ codes " " ++ decimal used ++ codes "\n"
finding_line (Clash at) = codes "no clash " ++ decimal at ++ codes "\n"
