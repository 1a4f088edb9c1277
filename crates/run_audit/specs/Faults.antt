-- What may be wrong with the records that a proof uses, and where a verdict lends them. No public clause cites this module.
use Rattle.std.specs.Prelude.{ℕ, List, [], ◌∷◌, Option, Some, None}
use Rattle.std.specs.List.{All, flat_map}
use Rattle.std.specs.Option.{option_map, option_copied, option_to_list}
use Rattle.dname.specs.Name.{Label}
use Rattle.denial_records.specs.Proof.{Proof, used_in, denied_by}
use Rattle.denial_records.specs.declared.record.Record.{Record}
use Rattle.denial_records.specs.declared.record.Record.TheVariants.{Set}
use Rattle.denial_records.specs.declared.verdict.Verdict.{Verdict}
use Rattle.zone_meaning.specs.Zone.{Zone}
use Rattle.soundness.specs.True.{IsTrueOf}
use Rattle.run_audit.specs.Findings.{IsFaultless, IsFirstFalse, IsClashing}
use Rattle.run_audit.specs.declared.fault.Fault.{Fault}
use Rattle.run_audit.specs.declared.fault.Fault.TheVariants as faults

-- what is wrong with them, if anything
abbrev pub IsFaultOf : Zone → List Label → Proof → Option Fault → Type 0
IsFaultOf zone name proof None = IsFaultless zone name proof
IsFaultOf zone name proof (Some (faults.Record used)) = IsFirstFalse zone proof used
IsFaultOf zone name proof (Some faults.Clash) = IsClashing zone name proof

-- the place of the first that isn't true of the zone, if there is one
abbrev pub IsFirstOf : Zone → Proof → Option ℕ → Type 0
IsFirstOf zone proof None = All (IsTrueOf zone) (used_in proof)
IsFirstOf zone proof (Some used) = IsFirstFalse zone proof used

-- the parts of a verdict: the set that answers, the SOA, and the first, second and third record of the denial
abbrev pub parts_of : Verdict → List (Option Record)
parts_of verdict =
    option_map Set (option_copied verdict.answer_set)
    ∷ option_map Set (option_copied verdict.soa)
    ∷ option_map denied_by verdict.first
    ∷ option_map denied_by verdict.second
    ∷ option_map denied_by verdict.third
    ∷ []

-- those that are there
abbrev pub present : {X : Type 0} → List (Option X) → List X
present parts = flat_map option_to_list parts
