use Rattle.std.proofs.Common.{[], ◌∷◌, refl}
use Rattle.facts.proofs.Lists.{all_one}
use Rattle.dname.specs.declared.types.TheConstants.{A_TYPE, TXT_TYPE}
use Rattle.denial_records.specs.declared.record.Record.TheVariants.{Nsec3, Set}
use Rattle.denial_records.specs.declared.verdict.Kind.TheVariants as kinds
use Rattle.zone_meaning.specs.Consistent.{IsConsistentSet}
use Rattle.zone_meaning.specs.Zone.{IsZone}
use Rattle.zone_meaning.specs.Examples.{a_example, w_example, soa_set}
use Rattle.zone_meaning.proofs.ConsistentTests.{zone_by_test, set_by_tests}
use Rattle.soundness.specs.True.{IsTrueOf, IsClashFreeFor}
use Rattle.soundness.specs.Examples.{soa}
use Rattle.soundness.specs.HashedExamples.{hashed_zone, at_a, at_w, opted_out_at_a, hashed_held}
use Rattle.soundness.proofs.ExampleLemmas.{worked_hashed_denial}
use Rattle.soundness.proofs.HashFacts.{true_at_a, true_at_w, true_opted_out_at_a, clash_free_a_example, clash_free_w_example, proves_a_txt, proves_w_a, proves_opted_out}
use Rattle.soundness.proofs.hashed_examples.a_hashed_match_is_worked.Goals as goal

zone : IsZone hashed_zone
zone = zone_by_test hashed_zone refl

true_soa : IsConsistentSet hashed_zone soa_set
true_soa = set_by_tests hashed_zone soa_set refl refl (λ e. cc) refl refl

pub returns : goal.returns
returns c = record {
  a_txt = worked_hashed_denial hashed_zone zone hashed_held a_example TXT_TYPE kinds.NoData (at_a ∷ []) true_soa
      (all_one (IsTrueOf hashed_zone) (Nsec3 at_a) true_at_a) (all_one (IsClashFreeFor hashed_zone a_example) (Nsec3 at_a) clash_free_a_example) proves_a_txt;
  w_a = worked_hashed_denial hashed_zone zone hashed_held w_example A_TYPE kinds.NoData (at_w ∷ []) true_soa
      (all_one (IsTrueOf hashed_zone) (Nsec3 at_w) true_at_w) (all_one (IsClashFreeFor hashed_zone w_example) (Nsec3 at_w) clash_free_w_example) proves_w_a;
  opted_out = worked_hashed_denial hashed_zone zone (Set soa ∷ Nsec3 opted_out_at_a ∷ []) a_example TXT_TYPE kinds.NoData (opted_out_at_a ∷ []) true_soa
      (all_one (IsTrueOf hashed_zone) (Nsec3 opted_out_at_a) true_opted_out_at_a) (all_one (IsClashFreeFor hashed_zone a_example) (Nsec3 opted_out_at_a) clash_free_a_example) proves_opted_out;
}
