use Rattle.std.proofs.Common.{◌≡◌, ◌≢◌, List, [], ◌∷◌, refl, sym, subst}
use Rattle.std.specs.Prelude.{not, ◌||◌, codes}
use Rattle.std.specs.Cmp.Lexicographic.{bytes_decides}
use Rattle.std.proofs.lemmas.Bool.Decides.{Decides-not}
use Rattle.dname.specs.Name.{Label}
use Rattle.dname.specs.declared.types.TheConstants.{MX_TYPE, RRSIG_TYPE}
use Rattle.dname.proofs.SameLemmas.{same_name_decides}
use Rattle.dname.specs.Tests.{same_octets, same_name}
use Rattle.zone_meaning.specs.Zone.{Exists, IsCut, HasType}
use Rattle.zone_meaning.specs.Examples.{example}
use Rattle.zone_meaning.specs.HashedExamples.{digits, hashed_zone, opt_out_zone, c_example, x_w_example, y_w_example}
use Rattle.zone_meaning.proofs.ZoneTests.{refuted, if_decides, exists_decides, has_type_decides, cut_decides}
use Rattle.zone_meaning.proofs.ConsistentTests.{lacks, proof_type_decides}
use Rattle.zone_meaning.proofs.HashedTests.{between_decides, each_existing}
use Rattle.zone_meaning.proofs.hashed_examples.what_is_not_true_of_a_hashed_zone.Goals as goal

no_such_hash : (name : List Label) → Exists hashed_zone name → digits name ≢ codes "0va5"
no_such_hash = each_existing hashed_zone (λ y. not (same_octets (digits y) (codes "0va5"))) (λ y. digits y ≢ codes "0va5")
    (λ y. Decides-not (same_octets (digits y) (codes "0va5")) (bytes_decides (digits y) (codes "0va5"))) refl

only_x_w : (name : List Label) → Exists hashed_zone name → digits name ≡ codes "b4um" → name ≡ x_w_example
only_x_w = each_existing hashed_zone (λ y. not (same_octets (digits y) (codes "b4um")) || same_name y x_w_example) (λ y. digits y ≡ codes "b4um" → y ≡ x_w_example)
    (λ y. if_decides (same_octets (digits y) (codes "b4um")) (same_name y x_w_example) (bytes_decides (digits y) (codes "b4um")) (same_name_decides y x_w_example)) refl

not_the_root : example ≡ [] → ⊥
not_the_root e = cc

pub returns : goal.returns
returns c = record {
  of_another_zone = λ is. not_the_root is.apex;
  of_no_name = λ is. no_such_hash is.named is.there is.hashed;
  type_missing = λ is.
      let same : is.named ≡ x_w_example = only_x_w is.named is.there is.hashed in
      lacks (RRSIG_TYPE ∷ []) MX_TYPE refl ((is.types_agree MX_TYPE (refuted (proof_type_decides MX_TYPE) refl)
      (λ cut. absurd (refuted (cut_decides hashed_zone x_w_example) refl (subst (IsCut hashed_zone) same cut)))).0
      (subst (λ n. HasType hashed_zone n MX_TYPE) (sym same) ((has_type_decides hashed_zone x_w_example MX_TYPE).0 refl)));
  empty_name_left_out = λ is. is.none_between refl y_w_example ((exists_decides hashed_zone y_w_example).0 refl) ((between_decides (codes "b4um") (codes "k8ud") (digits y_w_example)).0 refl);
  cut_left_out = λ is. is.none_between refl c_example ((exists_decides opt_out_zone c_example).0 refl) ((between_decides (codes "35mt") (codes "b4um") (digits c_example)).0 refl);
}
