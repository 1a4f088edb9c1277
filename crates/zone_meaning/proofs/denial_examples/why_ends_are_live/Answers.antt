use Rattle.std.proofs.Common.{[], ◌∷◌, refl}
use Rattle.dname.specs.declared.types.TheConstants.{MX_TYPE}
use Rattle.zone_meaning.specs.Lookup.{Answer}
use Rattle.zone_meaning.specs.Examples.{example, wildcard_mx, asterisk_example}
use Rattle.zone_meaning.specs.DenialExamples.{one_wildcard, nsec_at_host, nsec_of_no_owner, nsec_to_no_owner, y_example, x_y_example}
use Rattle.zone_meaning.proofs.ZoneTests.{refuted, live_decides}
use Rattle.zone_meaning.proofs.LookupTests.{by_source, data_at, data_made}
use Rattle.zone_meaning.proofs.ConsistentTests.{types_agree, none_between, zone_by_test, nsec_by_tests}
use Rattle.zone_meaning.proofs.DenialTests.{empty_name_decides, error_by_tests}
use Rattle.zone_meaning.proofs.denial_examples.why_ends_are_live.Goals as goal

pub returns : goal.returns
returns c = record {
  zone = zone_by_test one_wildcard refl;
  host = nsec_by_tests one_wildcard nsec_at_host refl refl refl refl refl;
  answer = by_source one_wildcard x_y_example MX_TYPE refl refl (Answer (wildcard_mx ∷ [])) example refl refl
      (data_made one_wildcard asterisk_example MX_TYPE (wildcard_mx ∷ []) refl refl (data_at one_wildcard asterisk_example MX_TYPE (wildcard_mx ∷ []) refl refl));
  answer_above = by_source one_wildcard y_example MX_TYPE refl refl (Answer (wildcard_mx ∷ [])) example refl refl
      (data_made one_wildcard asterisk_example MX_TYPE (wildcard_mx ∷ []) refl refl (data_at one_wildcard asterisk_example MX_TYPE (wildcard_mx ∷ []) refl refl));
  owner_made_up = (
    (live_decides one_wildcard nsec_of_no_owner.next).0 refl,
    types_agree one_wildcard nsec_of_no_owner.owner nsec_of_no_owner.types refl,
    none_between one_wildcard nsec_of_no_owner.owner nsec_of_no_owner.next refl,
    error_by_tests nsec_of_no_owner nsec_at_host x_y_example y_example refl refl,
    λ is. refuted (live_decides one_wildcard nsec_of_no_owner.owner) refl is.owner_live,
  );
  next_made_up = (
    (live_decides one_wildcard nsec_to_no_owner.owner).0 refl,
    types_agree one_wildcard nsec_to_no_owner.owner nsec_to_no_owner.types refl,
    none_between one_wildcard nsec_to_no_owner.owner nsec_to_no_owner.next refl,
    (empty_name_decides nsec_to_no_owner y_example).0 refl,
    λ is. refuted (live_decides one_wildcard nsec_to_no_owner.next) refl is.next_live,
  );
}
