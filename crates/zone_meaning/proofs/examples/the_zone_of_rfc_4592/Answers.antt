use Rattle.std.proofs.Common.{[], ◌∷◌, refl}
use Rattle.std.specs.Prelude.{codes}
use Rattle.dname.specs.declared.types.TheConstants.{A_TYPE, MX_TYPE, SRV_TYPE, TXT_TYPE}
use Rattle.zone_meaning.specs.Lookup.{Answer, NoData}
use Rattle.zone_meaning.specs.Examples.{example, wildcards, wildcard_text, wildcard_mx, asterisk_example, host1_example, tcp_host1_example, subdel_example}
use Rattle.zone_meaning.proofs.LookupTests.{by_cut, by_name, by_none, by_source, nothing_at, data_at, data_made, nothing_made}
use Rattle.zone_meaning.proofs.ConsistentTests.{zone_by_test}
use Rattle.zone_meaning.proofs.examples.the_zone_of_rfc_4592.Goals as goal

pub returns : goal.returns
returns c = record {
  zone = zone_by_test wildcards refl;
  host3_mx = by_source wildcards (codes "host3" ∷ example) MX_TYPE refl refl (Answer (wildcard_mx ∷ [])) example refl refl
      (data_made wildcards asterisk_example MX_TYPE (wildcard_mx ∷ []) refl refl (data_at wildcards asterisk_example MX_TYPE (wildcard_mx ∷ []) refl refl));
  host3_a = by_source wildcards (codes "host3" ∷ example) A_TYPE refl refl NoData example refl refl
      (nothing_made wildcards asterisk_example A_TYPE refl refl refl (nothing_at wildcards asterisk_example A_TYPE refl refl));
  foo_bar_txt = by_source wildcards (codes "foo" ∷ codes "bar" ∷ example) TXT_TYPE refl refl (Answer (wildcard_text ∷ [])) example refl refl
      (data_made wildcards asterisk_example TXT_TYPE (wildcard_text ∷ []) refl refl (data_at wildcards asterisk_example TXT_TYPE (wildcard_text ∷ []) refl refl));
  host1_mx = by_name wildcards host1_example MX_TYPE refl refl NoData refl (nothing_at wildcards host1_example MX_TYPE refl refl);
  sub_mx = by_name wildcards (codes "sub" ∷ asterisk_example) MX_TYPE refl refl NoData refl (nothing_at wildcards (codes "sub" ∷ asterisk_example) MX_TYPE refl refl);
  telnet_srv = by_none wildcards (codes "_telnet" ∷ tcp_host1_example) SRV_TYPE refl refl tcp_host1_example refl refl refl;
  subdel_a = by_cut wildcards (codes "host" ∷ subdel_example) A_TYPE refl subdel_example refl refl;
  ghost_mx = by_none wildcards (codes "ghost" ∷ asterisk_example) MX_TYPE refl refl asterisk_example refl refl refl;
  empty_non_terminal = by_name wildcards tcp_host1_example SRV_TYPE refl refl NoData refl (nothing_at wildcards tcp_host1_example SRV_TYPE refl refl);
}
