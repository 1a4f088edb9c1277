use Rattle.std.proofs.Common.{[], ◌∷◌, refl}
use Rattle.facts.proofs.Lists.{all_one}
use Rattle.dname.specs.declared.types.TheConstants.{A_TYPE}
use Rattle.denial_records.specs.declared.record.Record.TheVariants.{Set}
use Rattle.zone_meaning.specs.DenialExamples.{low_wildcard, before_star_example, nsec_before_star, star_set}
use Rattle.zone_meaning.specs.Consistent.{IsConsistentNsec}
use Rattle.zone_meaning.proofs.ConsistentTests.{zone_by_test, nsec_by_tests, set_by_tests}
use Rattle.soundness.specs.Examples.{kept_set, nsecs_held}
use Rattle.soundness.proofs.ExampleLemmas.{worked_answer}
use Rattle.soundness.proofs.examples.before_the_asterisk_is_worked.Goals as goal

pub returns : goal.returns
returns c = worked_answer low_wildcard (zone_by_test low_wildcard refl) (Set (kept_set star_set) ∷ nsecs_held (nsec_before_star ∷ [])) before_star_example A_TYPE star_set (nsec_before_star ∷ [])
    (set_by_tests low_wildcard star_set refl refl (λ e. cc) refl refl)
    (all_one (IsConsistentNsec low_wildcard) nsec_before_star (nsec_by_tests low_wildcard nsec_before_star refl refl refl refl refl))
    refl
