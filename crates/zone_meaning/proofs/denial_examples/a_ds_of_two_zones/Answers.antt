use Rattle.std.proofs.Common.{[], ◌∷◌, refl}
use Rattle.dname.specs.declared.types.TheConstants.{DS_TYPE}
use Rattle.zone_meaning.specs.Lookup.{Answer, NoData}
use Rattle.zone_meaning.specs.Examples.{address, sub_example}
use Rattle.zone_meaning.specs.DenialExamples.{parent_zone, child_zone, nsec_of_child}
use Rattle.zone_meaning.proofs.ZoneTests.{refuted}
use Rattle.zone_meaning.proofs.LookupTests.{by_name, nothing_at, data_at, zone_for_decides}
use Rattle.zone_meaning.proofs.ConsistentTests.{zone_by_test, nsec_by_tests}
use Rattle.zone_meaning.proofs.DenialTests.{match_by_test}
use Rattle.zone_meaning.proofs.denial_examples.a_ds_of_two_zones.Goals as goal

pub returns : goal.returns
returns c = record {
  parent = zone_by_test parent_zone refl;
  child = zone_by_test child_zone refl;
  nsec = nsec_by_tests child_zone nsec_of_child refl refl refl refl refl;
  denies = match_by_test nsec_of_child sub_example DS_TYPE refl refl;
  no_data = by_name child_zone sub_example DS_TYPE refl refl NoData refl (nothing_at child_zone sub_example DS_TYPE refl refl);
  there = by_name parent_zone sub_example DS_TYPE refl refl (Answer (address 1 ∷ [])) refl (data_at parent_zone sub_example DS_TYPE (address 1 ∷ []) refl refl);
  for_the_parent = (zone_for_decides parent_zone sub_example DS_TYPE).0 refl;
  not_for_the_child = refuted (zone_for_decides child_zone sub_example DS_TYPE) refl;
}
