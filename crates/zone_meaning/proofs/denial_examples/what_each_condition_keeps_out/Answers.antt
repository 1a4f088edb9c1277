use Rattle.std.proofs.Common.{[], ◌∷◌, refl}
use Rattle.std.specs.Prelude.{codes}
use Rattle.dname.specs.Name.{asterisk, wire_of}
use Rattle.dname.specs.declared.types.TheConstants.{A_TYPE, DNAME_TYPE, DS_TYPE, MX_TYPE, NS_TYPE}
use Rattle.dname.proofs.UnderLemmas.{under_decides}
use Rattle.zone_meaning.specs.Lookup.{Answer, Alias, NoData, Undefined, by_its_ns, by_its_dname, as_itself}
use Rattle.zone_meaning.specs.Examples.{wildcards, example, a_example, w_example, star_w_example, address, asterisk_example, alias_example, one_cut, nsec_at_cut, sub_example, moved_example}
use Rattle.zone_meaning.specs.DenialExamples.{nsec_at_wildcard, low_wildcard, nsec_before_star, before_star_example, empty_wildcard, nsec_before_wildcard, nsec_after_wildcard, v_example, one_alias, nsec_at_alias, wildcard_alias, nsec_at_wildcard_alias, wildcard_cut, ds_set, nsec_at_wildcard_cut, wildcard_dname, nsec_at_wildcard_dname, one_dname, nsec_at_dname}
use Rattle.zone_meaning.proofs.ZoneTests.{refuted, exists_decides, has_type_decides}
use Rattle.zone_meaning.proofs.LookupTests.{by_cut, by_dname, by_name, by_none, by_source, nothing_at, alias_at, data_at, data_made, nothing_made}
use Rattle.zone_meaning.proofs.ConsistentTests.{inside_decides, nsec_by_tests, set_by_tests, lacks}
use Rattle.zone_meaning.proofs.DenialTests.{denies_decides, synthesis_decides, no_name_decides, empty_name_decides, speaks_decides, encloser_decides, missing_decides}
use Rattle.zone_meaning.proofs.denial_examples.what_each_condition_keeps_out.Goals as goal

pub returns : goal.returns
returns c = record {
  alias_at_the_name = (
    nsec_by_tests one_alias nsec_at_alias refl refl refl refl refl,
    lacks nsec_at_alias.types A_TYPE refl,
    refuted (denies_decides nsec_at_alias.types alias_example example A_TYPE) refl,
    by_name one_alias alias_example A_TYPE refl refl (Alias (wire_of a_example)) refl (alias_at one_alias alias_example A_TYPE (wire_of a_example) refl refl refl),
  );
  cut_at_the_name = (
    nsec_by_tests one_cut nsec_at_cut refl refl refl refl refl,
    lacks nsec_at_cut.types A_TYPE refl,
    refuted (denies_decides nsec_at_cut.types sub_example example A_TYPE) refl,
    by_cut one_cut sub_example A_TYPE refl sub_example refl refl,
  );
  below_a_cut = (
    nsec_by_tests one_cut nsec_at_cut refl refl refl refl refl,
    (no_name_decides nsec_at_cut (codes "x" ∷ sub_example)).0 refl,
    (encloser_decides nsec_at_cut (codes "x" ∷ sub_example) sub_example).0 refl,
    (no_name_decides nsec_at_cut (asterisk ∷ sub_example)).0 refl,
    refuted (speaks_decides nsec_at_cut (codes "x" ∷ sub_example)) refl,
    by_cut one_cut (codes "x" ∷ sub_example) A_TYPE refl sub_example refl refl,
  );
  below_a_dname = (
    nsec_by_tests one_dname nsec_at_dname refl refl refl refl refl,
    (no_name_decides nsec_at_dname (codes "x" ∷ moved_example)).0 refl,
    (encloser_decides nsec_at_dname (codes "x" ∷ moved_example) moved_example).0 refl,
    (no_name_decides nsec_at_dname (asterisk ∷ moved_example)).0 refl,
    refuted (speaks_decides nsec_at_dname (codes "x" ∷ moved_example)) refl,
    by_dname one_dname (codes "x" ∷ moved_example) A_TYPE refl moved_example refl refl,
  );
  encloser_of_the_owner_alone = (
    (no_name_decides nsec_before_star before_star_example).0 refl,
    (speaks_decides nsec_before_star before_star_example).0 refl,
    (under_decides example example).0 refl,
    (no_name_decides nsec_before_star asterisk_example).0 refl,
    refuted (encloser_decides nsec_before_star before_star_example example) refl,
    by_source low_wildcard before_star_example A_TYPE refl refl (Answer (address 1 ∷ [])) w_example refl refl
        (data_made low_wildcard star_w_example A_TYPE (address 1 ∷ []) refl refl (data_at low_wildcard star_w_example A_TYPE (address 1 ∷ []) refl refl)),
  );
  empty_is_no_cover = (
    (missing_decides nsec_after_wildcard (codes "y" ∷ v_example) v_example).0 refl,
    (inside_decides nsec_before_wildcard.owner nsec_before_wildcard.next (asterisk ∷ v_example)).0 refl,
    refuted (no_name_decides nsec_before_wildcard (asterisk ∷ v_example)) refl,
    by_source empty_wildcard (codes "y" ∷ v_example) A_TYPE refl refl NoData v_example refl refl
        (nothing_made empty_wildcard (asterisk ∷ v_example) A_TYPE refl refl refl (nothing_at empty_wildcard (asterisk ∷ v_example) A_TYPE refl refl)),
  );
  cover_is_not_empty = (
    nsec_by_tests wildcards nsec_at_wildcard refl refl refl refl refl,
    (inside_decides nsec_at_wildcard.owner nsec_at_wildcard.next (codes "ghost" ∷ asterisk_example)).0 refl,
    refuted (empty_name_decides nsec_at_wildcard (codes "ghost" ∷ asterisk_example)) refl,
    by_none wildcards (codes "ghost" ∷ asterisk_example) MX_TYPE refl refl asterisk_example refl refl refl,
  );
  wildcard_with_cname = (
    nsec_by_tests wildcard_alias nsec_at_wildcard_alias refl refl refl refl refl,
    (missing_decides nsec_at_wildcard_alias (codes "x" ∷ example) example).0 refl,
    lacks nsec_at_wildcard_alias.types A_TYPE refl,
    refuted (synthesis_decides nsec_at_wildcard_alias.types A_TYPE) refl,
    by_source wildcard_alias (codes "x" ∷ example) A_TYPE refl refl (Alias (wire_of a_example)) example refl refl
        (as_itself (Alias (wire_of a_example)) ((exists_decides wildcard_alias asterisk_example).0 refl) (refuted (has_type_decides wildcard_alias asterisk_example NS_TYPE) refl)
        (alias_at wildcard_alias asterisk_example A_TYPE (wire_of a_example) refl refl refl) (λ e. cc)),
  );
  wildcard_with_ns = (
    nsec_by_tests wildcard_cut nsec_at_wildcard_cut refl refl refl refl refl,
    (missing_decides nsec_at_wildcard_cut (codes "x" ∷ example) example).0 refl,
    lacks nsec_at_wildcard_cut.types A_TYPE refl,
    refuted (synthesis_decides nsec_at_wildcard_cut.types A_TYPE) refl,
    by_source wildcard_cut (codes "x" ∷ example) A_TYPE refl refl Undefined example refl refl (by_its_ns ((exists_decides wildcard_cut asterisk_example).0 refl) ((has_type_decides wildcard_cut asterisk_example NS_TYPE).0 refl)),
  );
  wildcard_with_dname = (
    nsec_by_tests wildcard_dname nsec_at_wildcard_dname refl refl refl refl refl,
    (missing_decides nsec_at_wildcard_dname (codes "x" ∷ example) example).0 refl,
    lacks nsec_at_wildcard_dname.types A_TYPE refl,
    refuted (synthesis_decides nsec_at_wildcard_dname.types A_TYPE) refl,
    by_source wildcard_dname (codes "x" ∷ example) A_TYPE refl refl Undefined example refl refl
        (by_its_dname ((exists_decides wildcard_dname asterisk_example).0 refl) ((has_type_decides wildcard_dname asterisk_example DNAME_TYPE).0 refl) (nothing_at wildcard_dname asterisk_example A_TYPE refl refl)),
  );
  ds_of_a_wildcard = (
    set_by_tests wildcard_cut ds_set refl refl (λ e. cc) refl refl,
    (missing_decides nsec_at_wildcard_cut (codes "x" ∷ example) example).0 refl,
    λ proof. proof.answers.not_ds refl,
    by_source wildcard_cut (codes "x" ∷ example) DS_TYPE refl refl Undefined example refl refl (by_its_ns ((exists_decides wildcard_cut asterisk_example).0 refl) ((has_type_decides wildcard_cut asterisk_example NS_TYPE).0 refl)),
  );
}
