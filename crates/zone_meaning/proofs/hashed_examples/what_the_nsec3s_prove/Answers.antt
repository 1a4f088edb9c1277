use Rattle.std.proofs.Common.{◌∷◌, refl, arith}
use Rattle.std.specs.Prelude.{codes}
use Rattle.dname.specs.declared.types.TheConstants.{A_TYPE, MX_TYPE, TXT_TYPE}
use Rattle.zone_meaning.specs.Examples.{example, a_example, w_example, star_w_example}
use Rattle.zone_meaning.specs.HashedExamples.{digits, hashed_zone, nsec3_at_apex, nsec3_at_ns1, nsec3_at_a, nsec3_at_x_w, nsec3_at_y_w, nsec3_at_w, nsec3_at_star, nsec3_at_xx, star_mx_set, ns1_example, xx_example, x_w_example, y_w_example}
use Rattle.zone_meaning.proofs.ConsistentTests.{zone_by_test, set_by_tests}
use Rattle.zone_meaning.proofs.HashedTests.{nsec3_by_tests, clash_free_by_tests, match_by_hash, missing_by_hash, error_by_hashes, without_type_by_hashes}
use Rattle.zone_meaning.proofs.hashed_examples.what_the_nsec3s_prove.Goals as goal

pub returns : goal.returns
returns c = record {
  zone = zone_by_test hashed_zone refl;
  at_apex = nsec3_by_tests hashed_zone nsec3_at_apex example refl refl refl refl refl;
  at_ns1 = nsec3_by_tests hashed_zone nsec3_at_ns1 ns1_example refl refl refl refl refl;
  at_a = nsec3_by_tests hashed_zone nsec3_at_a a_example refl refl refl refl refl;
  at_x_w = nsec3_by_tests hashed_zone nsec3_at_x_w x_w_example refl refl refl refl refl;
  at_y_w = nsec3_by_tests hashed_zone nsec3_at_y_w y_w_example refl refl refl refl refl;
  at_w = nsec3_by_tests hashed_zone nsec3_at_w w_example refl refl refl refl refl;
  at_star = nsec3_by_tests hashed_zone nsec3_at_star star_w_example refl refl refl refl refl;
  at_xx = nsec3_by_tests hashed_zone nsec3_at_xx xx_example refl refl refl refl refl;
  set = set_by_tests hashed_zone star_mx_set refl refl (λ e. cc) refl refl;
  ns1_free = clash_free_by_tests hashed_zone digits ns1_example refl refl;
  y_w_free = clash_free_by_tests hashed_zone digits y_w_example refl refl;
  a_c_x_w_free = clash_free_by_tests hashed_zone digits (codes "a" ∷ codes "c" ∷ x_w_example) refl refl;
  a_z_w_free = clash_free_by_tests hashed_zone digits (codes "a" ∷ codes "z" ∷ w_example) refl refl;
  ns1_mx = match_by_hash nsec3_at_ns1 ns1_example MX_TYPE refl refl refl;
  y_w_a = match_by_hash nsec3_at_y_w y_w_example A_TYPE refl refl refl;
  a_c_x_w = error_by_hashes nsec3_at_apex nsec3_at_x_w nsec3_at_a (codes "a" ∷ codes "c" ∷ x_w_example) x_w_example
      (missing_by_hash nsec3_at_apex (codes "a" ∷ codes "c" ∷ x_w_example) x_w_example (codes "c") refl refl refl) refl refl;
  a_z_w_mx = record {
    missing = missing_by_hash nsec3_at_w (codes "a" ∷ codes "z" ∷ w_example) w_example (codes "z") refl refl refl;
    answers = record { owner = refl; of_type = refl; not_ds = λ e. omega arith };
  };
  a_z_w_txt = without_type_by_hashes nsec3_at_w nsec3_at_star (codes "a" ∷ codes "z" ∷ w_example) w_example TXT_TYPE
      (missing_by_hash nsec3_at_w (codes "a" ∷ codes "z" ∷ w_example) w_example (codes "z") refl refl refl) refl refl;
}
