use Rattle.std.proofs.Common.{[], ◌∷◌, refl}
use Rattle.facts.proofs.Lists.{all_one}
use Rattle.dname.specs.declared.types.TheConstants.{A_TYPE, TXT_TYPE}
use Rattle.denial_records.specs.declared.record.Record.TheVariants.{Nsec3}
use Rattle.denial_records.specs.declared.verdict.Kind.TheVariants as kinds
use Rattle.zone_meaning.specs.Consistent.{IsConsistentSet}
use Rattle.zone_meaning.specs.Zone.{IsZone}
use Rattle.zone_meaning.specs.Examples.{soa_set}
use Rattle.zone_meaning.proofs.ConsistentTests.{zone_by_test, set_by_tests}
use Rattle.soundness.specs.True.{IsTrueOf, IsClashFreeFor}
use Rattle.soundness.specs.HashedExamples.{hashed_zone, c_example, x_w_example, at_example, at_a, at_star_w, at_w, star_w_set, hashed_held}
use Rattle.soundness.proofs.ExampleLemmas.{worked_hashed_denial, worked_hashed_answer, two_hold}
use Rattle.soundness.proofs.HashFacts.{true_at_example, true_at_a, true_at_star_w, true_at_w, clash_free_c_example, clash_free_x_w_example, proves_c_a, proves_x_w_a, proves_x_w_txt}
use Rattle.soundness.proofs.hashed_examples.a_hashed_cover_is_worked.Goals as goal

zone : IsZone hashed_zone
zone = zone_by_test hashed_zone refl

true_soa : IsConsistentSet hashed_zone soa_set
true_soa = set_by_tests hashed_zone soa_set refl refl (λ e. cc) refl refl

pub returns : goal.returns
returns c = record {
  c_a = worked_hashed_denial hashed_zone zone hashed_held c_example A_TYPE kinds.NxDomain (at_example ∷ at_a ∷ []) true_soa
      (two_hold (IsTrueOf hashed_zone) (Nsec3 at_example) (Nsec3 at_a) true_at_example true_at_a) (two_hold (IsClashFreeFor hashed_zone c_example) (Nsec3 at_example) (Nsec3 at_a) clash_free_c_example clash_free_c_example) proves_c_a;
  x_w_a = worked_hashed_answer hashed_zone zone hashed_held x_w_example A_TYPE star_w_set (at_w ∷ [])
      (set_by_tests hashed_zone star_w_set refl refl (λ e. cc) refl refl) (all_one (IsTrueOf hashed_zone) (Nsec3 at_w) true_at_w) proves_x_w_a;
  x_w_txt = worked_hashed_denial hashed_zone zone hashed_held x_w_example TXT_TYPE kinds.NoData (at_w ∷ at_star_w ∷ []) true_soa
      (two_hold (IsTrueOf hashed_zone) (Nsec3 at_w) (Nsec3 at_star_w) true_at_w true_at_star_w) (two_hold (IsClashFreeFor hashed_zone x_w_example) (Nsec3 at_w) (Nsec3 at_star_w) clash_free_x_w_example clash_free_x_w_example) proves_x_w_txt;
}
