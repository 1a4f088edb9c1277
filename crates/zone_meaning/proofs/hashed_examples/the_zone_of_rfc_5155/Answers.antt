use Rattle.std.proofs.Common.{[], ◌∷◌, refl}
use Rattle.std.specs.Prelude.{codes}
use Rattle.dname.specs.declared.types.TheConstants.{A_TYPE, MX_TYPE, TXT_TYPE}
use Rattle.zone_meaning.specs.Lookup.{Answer, NoData}
use Rattle.zone_meaning.specs.Examples.{w_example, star_w_example, wildcard_mx}
use Rattle.zone_meaning.specs.HashedExamples.{hashed_zone, ns1_example, x_w_example, y_w_example}
use Rattle.zone_meaning.proofs.LookupTests.{by_name, by_none, by_source, nothing_at, data_at, data_made, nothing_made}
use Rattle.zone_meaning.proofs.hashed_examples.the_zone_of_rfc_5155.Goals as goal

pub returns : goal.returns
returns c = record {
  ns1_mx = by_name hashed_zone ns1_example MX_TYPE refl refl NoData refl (nothing_at hashed_zone ns1_example MX_TYPE refl refl);
  y_w_a = by_name hashed_zone y_w_example A_TYPE refl refl NoData refl (nothing_at hashed_zone y_w_example A_TYPE refl refl);
  a_c_x_w = by_none hashed_zone (codes "a" ∷ codes "c" ∷ x_w_example) A_TYPE refl refl x_w_example refl refl refl;
  a_z_w_mx = by_source hashed_zone (codes "a" ∷ codes "z" ∷ w_example) MX_TYPE refl refl (Answer (wildcard_mx ∷ [])) w_example refl refl
      (data_made hashed_zone star_w_example MX_TYPE (wildcard_mx ∷ []) refl refl (data_at hashed_zone star_w_example MX_TYPE (wildcard_mx ∷ []) refl refl));
  a_z_w_txt = by_source hashed_zone (codes "a" ∷ codes "z" ∷ w_example) TXT_TYPE refl refl NoData w_example refl refl
      (nothing_made hashed_zone star_w_example TXT_TYPE refl refl refl (nothing_at hashed_zone star_w_example TXT_TYPE refl refl));
}
