use Rattle.std.proofs.Common.{refl}
use Rattle.dname.specs.declared.types.TheConstants.{DS_TYPE, MX_TYPE}
use Rattle.zone_meaning.specs.Lookup.{NoData}
use Rattle.zone_meaning.specs.Examples.{a_example}
use Rattle.zone_meaning.specs.HashedExamples.{digits, opt_out_zone, nsec3_opting_out, nsec3_at_c, c_example}
use Rattle.zone_meaning.proofs.LookupTests.{by_name, nothing_at}
use Rattle.zone_meaning.proofs.ConsistentTests.{zone_by_test}
use Rattle.zone_meaning.proofs.HashedTests.{nsec3_by_tests, clash_free_by_tests, match_by_hash}
use Rattle.zone_meaning.proofs.hashed_examples.an_opt_out_match.Goals as goal

pub returns : goal.returns
returns c = record {
  zone = zone_by_test opt_out_zone refl;
  opting_out = nsec3_by_tests opt_out_zone nsec3_opting_out a_example refl refl refl refl refl;
  free = clash_free_by_tests opt_out_zone digits a_example refl refl;
  denies = match_by_hash nsec3_opting_out a_example MX_TYPE refl refl refl;
  no_data = by_name opt_out_zone a_example MX_TYPE refl refl NoData refl (nothing_at opt_out_zone a_example MX_TYPE refl refl);
  at_c = nsec3_by_tests opt_out_zone nsec3_at_c c_example refl refl refl refl refl;
  c_free = clash_free_by_tests opt_out_zone digits c_example refl refl;
  denies_ds = match_by_hash nsec3_at_c c_example DS_TYPE refl refl refl;
  no_ds = by_name opt_out_zone c_example DS_TYPE refl refl NoData refl (nothing_at opt_out_zone c_example DS_TYPE refl refl);
}
