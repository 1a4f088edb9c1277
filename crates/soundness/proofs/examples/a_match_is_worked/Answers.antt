use Rattle.std.proofs.Common.{[], ◌∷◌, refl}
use Rattle.std.proofs.lemmas.List.Elements.{All-nil}
use Rattle.facts.proofs.Lists.{all_one}
use Rattle.dname.specs.declared.types.TheConstants.{A_TYPE, DS_TYPE, TXT_TYPE}
use Rattle.denial_records.specs.declared.record.Record.TheVariants.{Set}
use Rattle.denial_records.specs.declared.verdict.Kind.TheVariants as kinds
use Rattle.zone_meaning.specs.Consistent.{IsConsistentNsec}
use Rattle.zone_meaning.specs.Examples.{a_example, soa_set, two_hosts, nsec_at_a, one_cut, sub_example, nsec_at_cut}
use Rattle.zone_meaning.proofs.ConsistentTests.{zone_by_test, nsec_by_tests, set_by_tests}
use Rattle.soundness.specs.Examples.{kept_set, nsecs_held, a_set}
use Rattle.soundness.proofs.ExampleLemmas.{worked_denial, worked_answer}
use Rattle.soundness.proofs.examples.a_match_is_worked.Goals as goal

pub returns : goal.returns
returns c = record {
  a_a = worked_answer two_hosts (zone_by_test two_hosts refl) (Set (kept_set a_set) ∷ nsecs_held (nsec_at_a ∷ [])) a_example A_TYPE a_set []
      (set_by_tests two_hosts a_set refl refl (λ e. cc) refl refl) (All-nil (IsConsistentNsec two_hosts)) refl;
  a_txt = worked_denial two_hosts (zone_by_test two_hosts refl) (Set (kept_set a_set) ∷ nsecs_held (nsec_at_a ∷ [])) a_example TXT_TYPE kinds.NoData (nsec_at_a ∷ [])
      (set_by_tests two_hosts soa_set refl refl (λ e. cc) refl refl) (all_one (IsConsistentNsec two_hosts) nsec_at_a (nsec_by_tests two_hosts nsec_at_a refl refl refl refl refl)) refl;
  cut_ds = worked_denial one_cut (zone_by_test one_cut refl) (nsecs_held (nsec_at_cut ∷ [])) sub_example DS_TYPE kinds.NoData (nsec_at_cut ∷ [])
      (set_by_tests one_cut soa_set refl refl (λ e. cc) refl refl) (all_one (IsConsistentNsec one_cut) nsec_at_cut (nsec_by_tests one_cut nsec_at_cut refl refl refl refl refl)) refl;
}
