use Rattle.std.specs.Prelude.{codes}
use Rattle.std.proofs.Common.{[], ◌∷◌, refl}
use Rattle.facts.proofs.Lists.{all_one}
use Rattle.dname.specs.declared.types.TheConstants.{A_TYPE}
use Rattle.denial_records.specs.declared.verdict.Kind.TheVariants as kinds
use Rattle.zone_meaning.specs.Zone.{IsZone}
use Rattle.zone_meaning.specs.Consistent.{IsConsistentSet, IsConsistentNsec}
use Rattle.zone_meaning.specs.Examples.{example, soa_set, wildcards, asterisk_example, tcp_host1_example}
use Rattle.zone_meaning.specs.DenialExamples.{nsec_at_wildcard, nsec_at_host1, nsec_at_ssh1, nsec_at_ssh2}
use Rattle.zone_meaning.proofs.ConsistentTests.{zone_by_test, nsec_by_tests, set_by_tests}
use Rattle.soundness.specs.Examples.{nsecs_held}
use Rattle.soundness.proofs.ExampleLemmas.{worked_denial, two_hold}
use Rattle.soundness.proofs.examples.the_zone_of_rfc_4592_is_worked.Goals as goal

zone : IsZone wildcards
zone = zone_by_test wildcards refl

soa : IsConsistentSet wildcards soa_set
soa = set_by_tests wildcards soa_set refl refl (λ e. cc) refl refl

at_wildcard : IsConsistentNsec wildcards nsec_at_wildcard
at_wildcard = nsec_by_tests wildcards nsec_at_wildcard refl refl refl refl refl

at_host1 : IsConsistentNsec wildcards nsec_at_host1
at_host1 = nsec_by_tests wildcards nsec_at_host1 refl refl refl refl refl

pub returns : goal.returns
returns c = record {
  tcp_name = worked_denial wildcards zone (nsecs_held (nsec_at_host1 ∷ [])) tcp_host1_example A_TYPE kinds.NoData (nsec_at_host1 ∷ []) soa
      (all_one (IsConsistentNsec wildcards) nsec_at_host1 at_host1) refl;
  telnet_name = worked_denial wildcards zone (nsecs_held (nsec_at_host1 ∷ nsec_at_ssh1 ∷ [])) (codes "_telnet" ∷ tcp_host1_example) A_TYPE kinds.NxDomain (nsec_at_ssh1 ∷ nsec_at_host1 ∷ []) soa
      (two_hold (IsConsistentNsec wildcards) nsec_at_ssh1 nsec_at_host1 (nsec_by_tests wildcards nsec_at_ssh1 refl refl refl refl refl) at_host1) refl;
  ghost_name = worked_denial wildcards zone (nsecs_held (nsec_at_wildcard ∷ [])) (codes "ghost" ∷ asterisk_example) A_TYPE kinds.NxDomain (nsec_at_wildcard ∷ []) soa
      (all_one (IsConsistentNsec wildcards) nsec_at_wildcard at_wildcard) refl;
  host3_a = worked_denial wildcards zone (nsecs_held (nsec_at_wildcard ∷ nsec_at_ssh2 ∷ [])) (codes "host3" ∷ example) A_TYPE kinds.NoData (nsec_at_ssh2 ∷ nsec_at_wildcard ∷ []) soa
      (two_hold (IsConsistentNsec wildcards) nsec_at_ssh2 nsec_at_wildcard (nsec_by_tests wildcards nsec_at_ssh2 refl refl refl refl refl) at_wildcard) refl;
}
