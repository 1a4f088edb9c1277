use Rattle.std.proofs.Common.{[], ◌∷◌, refl}
use Rattle.facts.proofs.Lists.{all_one}
use Rattle.dname.specs.declared.types.TheConstants.{A_TYPE}
use Rattle.denial_records.specs.declared.verdict.Kind.TheVariants as kinds
use Rattle.zone_meaning.specs.Consistent.{IsConsistentNsec}
use Rattle.zone_meaning.specs.Lookup.{LooksUp, NoData, NxDomain}
use Rattle.zone_meaning.specs.Examples.{example, soa_set}
use Rattle.zone_meaning.proofs.ConsistentTests.{zone_by_test, nsec_by_tests, set_by_tests}
use Rattle.zone_meaning.proofs.DenialTests.{error_by_tests}
use Rattle.zone_meaning.proofs.LookupLemmas.{one_answer}
use Rattle.zone_meaning.proofs.WildcardLemmas.{name_error}
use Rattle.zone_meaning.proofs.ZoneLemmas.{no_data_is_no_error}
use Rattle.soundness.specs.Sound.{HasUsed}
use Rattle.soundness.specs.Examples.{denied, y_example, one_host, nsec_to_host}
use Rattle.soundness.proofs.ExampleLemmas.{denial_used, denial_says}
use Rattle.soundness.proofs.examples.contradicting_records_are_both_used.Goals as goal

true_nsec : IsConsistentNsec one_host nsec_to_host
true_nsec = nsec_by_tests one_host nsec_to_host refl refl refl refl refl

one : HasUsed one_host (denied kinds.NoData (nsec_to_host ∷ []))
one = denial_used one_host kinds.NoData (nsec_to_host ∷ []) (zone_by_test one_host refl) (set_by_tests one_host soa_set refl refl (λ e. cc) refl refl)
    (all_one (IsConsistentNsec one_host) nsec_to_host true_nsec)

no_name : LooksUp one_host y_example A_TYPE NxDomain
no_name = name_error one_host nsec_to_host nsec_to_host y_example example A_TYPE (zone_by_test one_host refl) true_nsec true_nsec
    (error_by_tests nsec_to_host nsec_to_host y_example example refl refl)

pub returns : goal.returns
returns c = record {
  both = refl;
  one = one;
  not_enough = λ sound. no_data_is_no_error (one_answer one_host y_example A_TYPE NoData NxDomain (denial_says one_host y_example A_TYPE kinds.NoData (nsec_to_host ∷ []) one sound) no_name);
}
