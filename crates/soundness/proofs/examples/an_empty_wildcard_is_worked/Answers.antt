use Rattle.std.specs.Prelude.{codes}
use Rattle.std.proofs.Common.{[], ◌∷◌, refl}
use Rattle.dname.specs.declared.types.TheConstants.{A_TYPE}
use Rattle.denial_records.specs.declared.verdict.Kind.TheVariants as kinds
use Rattle.zone_meaning.specs.Examples.{soa_set}
use Rattle.zone_meaning.specs.DenialExamples.{empty_wildcard, nsec_before_wildcard, nsec_after_wildcard, v_example}
use Rattle.zone_meaning.specs.Consistent.{IsConsistentNsec}
use Rattle.zone_meaning.proofs.ConsistentTests.{zone_by_test, nsec_by_tests, set_by_tests}
use Rattle.soundness.specs.Examples.{nsecs_held}
use Rattle.soundness.proofs.ExampleLemmas.{worked_denial, two_hold}
use Rattle.soundness.proofs.examples.an_empty_wildcard_is_worked.Goals as goal

pub returns : goal.returns
returns c = worked_denial empty_wildcard (zone_by_test empty_wildcard refl) (nsecs_held (nsec_before_wildcard ∷ nsec_after_wildcard ∷ [])) (codes "y" ∷ v_example) A_TYPE kinds.NoData (nsec_after_wildcard ∷ nsec_before_wildcard ∷ [])
    (set_by_tests empty_wildcard soa_set refl refl (λ e. cc) refl refl)
    (two_hold (IsConsistentNsec empty_wildcard) nsec_after_wildcard nsec_before_wildcard
    (nsec_by_tests empty_wildcard nsec_after_wildcard refl refl refl refl refl)
    (nsec_by_tests empty_wildcard nsec_before_wildcard refl refl refl refl refl))
    refl
