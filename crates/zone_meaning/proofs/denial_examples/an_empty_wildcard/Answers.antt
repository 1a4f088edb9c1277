use Rattle.std.proofs.Common.{◌∷◌, refl}
use Rattle.std.specs.Prelude.{codes}
use Rattle.dname.specs.Name.{asterisk}
use Rattle.dname.specs.declared.types.TheConstants.{A_TYPE}
use Rattle.zone_meaning.specs.Lookup.{LooksUp, NoData, NxDomain}
use Rattle.zone_meaning.specs.DenialExamples.{empty_wildcard, nsec_before_wildcard, nsec_after_wildcard, v_example}
use Rattle.zone_meaning.proofs.LookupLemmas.{one_answer}
use Rattle.zone_meaning.proofs.LookupTests.{by_source, nothing_at, nothing_made}
use Rattle.zone_meaning.proofs.ConsistentTests.{zone_by_test, nsec_by_tests}
use Rattle.zone_meaning.proofs.DenialTests.{empty_by_tests}
use Rattle.zone_meaning.proofs.WildcardLemmas.{name_error}
use Rattle.zone_meaning.proofs.ZoneLemmas.{no_data_is_no_error}
use Rattle.zone_meaning.proofs.denial_examples.an_empty_wildcard.Goals as goal

looked : LooksUp empty_wildcard (codes "y" ∷ v_example) A_TYPE NoData
looked = by_source empty_wildcard (codes "y" ∷ v_example) A_TYPE refl refl NoData v_example refl refl
    (nothing_made empty_wildcard (asterisk ∷ v_example) A_TYPE refl refl refl (nothing_at empty_wildcard (asterisk ∷ v_example) A_TYPE refl refl))

pub returns : goal.returns
returns c = record {
  zone = zone_by_test empty_wildcard refl;
  before = nsec_by_tests empty_wildcard nsec_before_wildcard refl refl refl refl refl;
  after = nsec_by_tests empty_wildcard nsec_after_wildcard refl refl refl refl refl;
  proves = empty_by_tests nsec_after_wildcard nsec_before_wildcard (codes "y" ∷ v_example) v_example refl refl;
  looked = looked;
  never_denied = λ nsec source encloser true_nsec true_source error. no_data_is_no_error
      (one_answer empty_wildcard (codes "y" ∷ v_example) A_TYPE NoData NxDomain looked
      (name_error empty_wildcard nsec source (codes "y" ∷ v_example) encloser A_TYPE (zone_by_test empty_wildcard refl) true_nsec true_source error));
}
