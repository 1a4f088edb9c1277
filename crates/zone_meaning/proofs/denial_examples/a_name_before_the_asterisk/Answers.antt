use Rattle.std.proofs.Common.{[], ◌∷◌, refl, arith, ◌≡◌}
use Rattle.dname.specs.declared.types.TheConstants.{A_TYPE}
use Rattle.zone_meaning.specs.Lookup.{LooksUp, Answer, NxDomain}
use Rattle.zone_meaning.specs.Examples.{address, w_example, star_w_example}
use Rattle.zone_meaning.specs.DenialExamples.{low_wildcard, nsec_before_star, star_set, before_star_example}
use Rattle.zone_meaning.proofs.LookupLemmas.{one_answer}
use Rattle.zone_meaning.proofs.LookupTests.{by_source, data_at, data_made}
use Rattle.zone_meaning.proofs.ConsistentTests.{zone_by_test, nsec_by_tests, set_by_tests}
use Rattle.zone_meaning.proofs.DenialTests.{answer_by_tests}
use Rattle.zone_meaning.proofs.WildcardLemmas.{name_error}
use Rattle.zone_meaning.proofs.denial_examples.a_name_before_the_asterisk.Goals as goal

looked : LooksUp low_wildcard before_star_example A_TYPE (Answer (address 1 ∷ []))
looked = by_source low_wildcard before_star_example A_TYPE refl refl (Answer (address 1 ∷ [])) w_example refl refl
    (data_made low_wildcard star_w_example A_TYPE (address 1 ∷ []) refl refl (data_at low_wildcard star_w_example A_TYPE (address 1 ∷ []) refl refl))

answer_is_no_error : Answer (address 1 ∷ []) ≡ NxDomain → ⊥
answer_is_no_error e = cc

pub returns : goal.returns
returns c = record {
  zone = zone_by_test low_wildcard refl;
  nsec = nsec_by_tests low_wildcard nsec_before_star refl refl refl refl refl;
  set = set_by_tests low_wildcard star_set refl refl (λ e. cc) refl refl;
  proves = answer_by_tests nsec_before_star star_set before_star_example w_example A_TYPE refl (record { owner = refl; of_type = refl; not_ds = λ e. omega arith });
  looked = looked;
  never_denied = λ nsec source encloser true_nsec true_source error. answer_is_no_error
      (one_answer low_wildcard before_star_example A_TYPE (Answer (address 1 ∷ [])) NxDomain looked
      (name_error low_wildcard nsec source before_star_example encloser A_TYPE (zone_by_test low_wildcard refl) true_nsec true_source error));
}
