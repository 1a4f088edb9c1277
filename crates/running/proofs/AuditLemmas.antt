-- What the steps of an audit say of the octets that were read, and of those that were written.
use Rattle.std.proofs.Common.{◌≡◌, ◌≤◌, ◌⊎◌, List, [], ◌++◌, ℕ, Option, Some, inl, inr, length, get_or, arith, sym, ◌∙◌, ap, subst}
use Rattle.std.specs.Prelude.{IfSome}
use Rattle.std.proofs.lemmas.List.{append_cancel_left}
use Rattle.std.proofs.lemmas.Option.{same_Some}
use Rattle.outside_core.specs.Told.{append_told, prepend_told}
use Rattle.run_audit.specs.declared.finding.Finding.{Finding}
use Rattle.run_audit.specs.declared.finding.Finding.TheVariants.{Yes, Unfit, Record, Clash}
use Rattle.run_audit.specs.Line.{finding_line}
use Rattle.audit_source.specs.Source.{IsFaultOf}
use Rattle.audit_source.specs.declared.source_fault.SourceFault.{SourceFault}
use Rattle.audit_source.specs.declared.source_fault.SourceFault.TheVariants.{OutOfMemory}
use Rattle.running.specs.Audit.{AreUpheld, AreUpheldAtYes, IsUnaudited, no_source}
use Rattle.running.specs.declared.reading.TheConstants.{MAX_SOURCE}
use Rattle.running.proofs.RunLemmas.{told_whole}

-- what isn't told for want of memory is the octets' fault
pub refusal_of : (octets : List ℕ) (fault : SourceFault) → length octets ≤ MAX_SOURCE → (fault ≡ OutOfMemory) ⊎ IsFaultOf octets fault → (fault ≡ OutOfMemory → ⊥) → IsUnaudited octets
refusal_of octets fault size (inl memory) apart = absurd (apart memory)
refusal_of octets fault size (inr is) apart = no_source size fault is

-- a line begins with a y where yes is found, and else with an n
says_yes : (octets : List ℕ) (finding : Finding) (replies : ℕ) → finding_line finding ≡ finding_line (Yes replies) → AreUpheldAtYes octets finding → AreUpheld octets
says_yes octets (Yes number) replies same upheld = upheld
says_yes octets (Unfit clause) replies same upheld = absurd (omega (arith, ap (λ l. get_or l 0 0) same))
says_yes octets (Record at used) replies same upheld = absurd (omega (arith, ap (λ l. get_or l 0 0) same))
says_yes octets (Clash at) replies same upheld = absurd (omega (arith, ap (λ l. get_or l 0 0) same))

-- what holds of the octets that were lent holds of those that the source had left
pub whole_of : (P : List ℕ → Type 0) (left rest : Option (List ℕ)) (octets lent : List ℕ) → lent ≡ octets → left ≡ prepend_told octets rest → IfSome rest (λ more. more ≡ []) → P lent → IfSome left P
whole_of P left rest octets lent is given end holds = told_whole P left rest octets given end (subst P is holds)

-- the line was written behind what was told before
wrote_line : (line other before : List ℕ) (told after : Option (List ℕ)) → after ≡ append_told told line → told ≡ Some before → after ≡ Some (before ++ other) → line ≡ other
wrote_line line other before told after wrote begins ends =
    append_cancel_left before line other (same_Some (before ++ line) (before ++ other) (sym (ap (λ t. append_told t line) begins) ∙ sym wrote ∙ ends))

pub upheld_of : (octets lent line : List ℕ) (finding : Finding) (left rest told after : Option (List ℕ)) → lent ≡ octets → left ≡ prepend_told octets rest → IfSome rest (λ more. more ≡ [])
    → AreUpheldAtYes lent finding → line ≡ finding_line finding → after ≡ append_told told line
    → (before : List ℕ) (replies : ℕ) → told ≡ Some before → after ≡ Some (before ++ finding_line (Yes replies)) → IfSome left AreUpheld
upheld_of octets lent line finding left rest told after is given end upheld says wrote before replies begins ends =
    whole_of AreUpheld left rest octets lent is given end
    (says_yes lent finding replies (sym says ∙ wrote_line line (finding_line (Yes replies)) before told after wrote begins ends) upheld)
