use Rattle.std.proofs.Common.{◌∷◌, refl, arith}
use Rattle.std.specs.Prelude.{codes}
use Rattle.dname.specs.declared.types.TheConstants.{A_TYPE, MX_TYPE}
use Rattle.zone_meaning.specs.Examples.{example, wildcards, asterisk_example, host1_example, tcp_host1_example}
use Rattle.zone_meaning.specs.DenialExamples.{nsec_at_wildcard, nsec_at_host1, nsec_at_ssh1, nsec_at_ssh2, wildcard_set}
use Rattle.zone_meaning.proofs.ConsistentTests.{nsec_by_tests, set_by_tests}
use Rattle.zone_meaning.proofs.DenialTests.{empty_name_decides, match_by_test, error_by_tests, without_type_by_tests, answer_by_tests}
use Rattle.zone_meaning.proofs.denial_examples.what_the_nsecs_prove.Goals as goal

pub returns : goal.returns
returns c = record {
  at_wildcard = nsec_by_tests wildcards nsec_at_wildcard refl refl refl refl refl;
  at_host1 = nsec_by_tests wildcards nsec_at_host1 refl refl refl refl refl;
  at_ssh1 = nsec_by_tests wildcards nsec_at_ssh1 refl refl refl refl refl;
  at_ssh2 = nsec_by_tests wildcards nsec_at_ssh2 refl refl refl refl refl;
  set = set_by_tests wildcards wildcard_set refl refl (λ e. cc) refl refl;
  host1_mx = match_by_test nsec_at_host1 host1_example MX_TYPE refl refl;
  ghost_name = error_by_tests nsec_at_wildcard nsec_at_wildcard (codes "ghost" ∷ asterisk_example) asterisk_example refl refl;
  telnet_name = error_by_tests nsec_at_ssh1 nsec_at_host1 (codes "_telnet" ∷ tcp_host1_example) tcp_host1_example refl refl;
  tcp_name = (empty_name_decides nsec_at_host1 tcp_host1_example).0 refl;
  host3_a = without_type_by_tests nsec_at_ssh2 nsec_at_wildcard (codes "host3" ∷ example) example A_TYPE refl refl refl;
  host3_mx = answer_by_tests nsec_at_ssh2 wildcard_set (codes "host3" ∷ example) example MX_TYPE refl (record { owner = refl; of_type = refl; not_ds = λ e. omega arith });
}
