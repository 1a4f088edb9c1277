use Rattle.std.proofs.Common.{◌∷◌, refl}
use Rattle.std.specs.Prelude.{codes}
use Rattle.dname.specs.declared.types.TheConstants.{A_TYPE, DS_TYPE}
use Rattle.zone_meaning.specs.Lookup.{NoData}
use Rattle.zone_meaning.specs.Examples.{example, sub_example, one_cut, nsec_at_cut}
use Rattle.zone_meaning.proofs.LookupTests.{by_cut, by_name, nothing_at}
use Rattle.zone_meaning.proofs.ZoneTests.{refuted}
use Rattle.zone_meaning.proofs.DenialTests.{denies_decides, match_by_test}
use Rattle.zone_meaning.proofs.ConsistentTests.{zone_by_test, nsec_by_tests}
use Rattle.zone_meaning.proofs.examples.a_zone_with_a_cut.Goals as goal

pub returns : goal.returns
returns c = record {
  zone = zone_by_test one_cut refl;
  nsec = nsec_by_tests one_cut nsec_at_cut refl refl refl refl refl;
  denies_ds = match_by_test nsec_at_cut sub_example DS_TYPE refl refl;
  not_a = λ is. refuted (denies_decides nsec_at_cut.types sub_example example A_TYPE) refl is.denies;
  parent = by_name one_cut sub_example DS_TYPE refl refl NoData refl (nothing_at one_cut sub_example DS_TYPE refl refl);
  child = by_cut one_cut sub_example A_TYPE refl sub_example refl refl;
  glue = by_cut one_cut (codes "ns" ∷ sub_example) A_TYPE refl sub_example refl refl;
}
