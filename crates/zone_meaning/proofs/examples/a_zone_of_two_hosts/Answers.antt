use Rattle.std.proofs.Common.{refl}
use Rattle.dname.specs.declared.types.TheConstants.{MX_TYPE}
use Rattle.zone_meaning.specs.Examples.{a_example, two_hosts, nsec_at_a, soa_set}
use Rattle.zone_meaning.proofs.DenialTests.{match_by_test}
use Rattle.zone_meaning.proofs.ConsistentTests.{zone_by_test, nsec_by_tests, set_by_tests}
use Rattle.zone_meaning.proofs.examples.a_zone_of_two_hosts.Goals as goal

pub returns : goal.returns
returns c = record {
  zone = zone_by_test two_hosts refl;
  nsec = nsec_by_tests two_hosts nsec_at_a refl refl refl refl refl;
  soa = set_by_tests two_hosts soa_set refl refl (λ e. cc) refl refl;
  denies_mx = match_by_test nsec_at_a a_example MX_TYPE refl refl;
}
