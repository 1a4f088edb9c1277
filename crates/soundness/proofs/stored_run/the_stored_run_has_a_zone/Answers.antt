use Rattle.std.proofs.Common.{refl}
use Rattle.denial_records.specs.declared.record.Record.TheVariants.{Set, Nsec}
use Rattle.zone_meaning.specs.Examples.{two_hosts, nsec_at_a, soa_set}
use Rattle.zone_meaning.proofs.ConsistentTests.{zone_by_test, nsec_by_tests, set_by_tests}
use Rattle.soundness.specs.True.{IsTrueOf}
use Rattle.soundness.specs.StoredRun.{stored_soa, stored_nsec}
use Rattle.soundness.proofs.ExampleLemmas.{two_hold}
use Rattle.soundness.proofs.stored_run.the_stored_run_has_a_zone.Goals as goal

pub returns : goal.returns
returns c = record {
  proof = refl;
  ttl = refl;
  used = record {
    zone_is = zone_by_test two_hosts refl;
    each = two_hold (IsTrueOf two_hosts) (Set stored_soa) (Nsec stored_nsec)
        (set_by_tests two_hosts soa_set refl refl (λ e. cc) refl refl)
        (nsec_by_tests two_hosts nsec_at_a refl refl refl refl refl);
  };
}
