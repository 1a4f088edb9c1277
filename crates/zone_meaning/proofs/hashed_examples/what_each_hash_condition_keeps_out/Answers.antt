use Rattle.std.proofs.Common.{◌∷◌, length, refl, sym, ap, subst, arith, ⊎_elim}
use Rattle.std.specs.Prelude.{codes}
use Rattle.dname.specs.Name.{asterisk, wire_of}
use Rattle.dname.specs.declared.types.TheConstants.{A_TYPE, DNAME_TYPE, DS_TYPE, MX_TYPE, NS_TYPE}
use Rattle.dname.proofs.SameLemmas.{same_name_decides}
use Rattle.dname.proofs.UnderLemmas.{under_is_longer, under_itself, under_step, under_decides}
use Rattle.zone_meaning.specs.Lookup.{Alias, NoData, Undefined, by_its_ns, by_its_dname, as_itself}
use Rattle.zone_meaning.specs.HashedDenial.{IsNextCloserMissing, IsNoHashedName}
use Rattle.zone_meaning.specs.Examples.{example, a_example, alias_example, two_hosts, asterisk_example, w_example}
use Rattle.zone_meaning.specs.DenialExamples.{one_alias, wildcard_alias, wildcard_cut, ds_set, wildcard_dname, one_wildcard}
use Rattle.zone_meaning.specs.HashedExamples.{digits, hashed_zone, nsec3_at_apex, nsec3_at_a, nsec3_at_w, opt_out_zone, nsec3_opting_out, opt_out_apex, opt_out_x_w, nsec3_at_c, nsec3_at_alias, nsec3_at_wildcard_alias, hashed_dname, nsec3_at_dname, nsec3_at_wildcard_cut, nsec3_at_wildcard_dname, nsec3_of_all, nsec3_of_most, nsec3_of_others, c_example, xx_example, x_w_example}
use Rattle.zone_meaning.proofs.ZoneTests.{refuted, below_decides, exists_decides, has_type_decides}
use Rattle.zone_meaning.proofs.LookupTests.{by_cut, by_dname, by_name, by_none, by_source, nothing_at, alias_at, nothing_made}
use Rattle.zone_meaning.proofs.ConsistentTests.{set_by_tests, lacks}
use Rattle.zone_meaning.proofs.DenialTests.{denies_decides, synthesis_decides}
use Rattle.zone_meaning.proofs.HashedTests.{between_decides, nsec3_by_tests, clash_free_by_tests, no_hash_decides, open_decides, match_by_hash, missing_by_hash, error_by_hashes, without_type_by_hashes}
use Rattle.zone_meaning.proofs.hashed_examples.what_each_hash_condition_keeps_out.Goals as goal

-- the next closer name below w is x.w, which exists
x_w_is_there : IsNextCloserMissing nsec3_at_apex (codes "c" ∷ x_w_example) w_example → ⊥
x_w_is_there missing = ⊎_elim
    (λ same. omega (arith, ap length same))
    (λ up. ⊎_elim
    (λ same. refuted (no_hash_decides nsec3_at_apex x_w_example) refl (subst (IsNoHashedName nsec3_at_apex) (sym same) missing.no_name))
    (λ up'. omega (arith, under_is_longer w_example (missing.label ∷ w_example) up'))
    (under_step (codes "x") w_example (missing.label ∷ w_example) up))
    (under_step (codes "c") x_w_example (missing.label ∷ w_example) missing.above)

pub returns : goal.returns
returns c = record {
  alias_at_the_name = (
    nsec3_by_tests one_alias nsec3_at_alias alias_example refl refl refl refl refl,
    clash_free_by_tests one_alias digits alias_example refl refl,
    lacks nsec3_at_alias.types A_TYPE refl,
    refuted (denies_decides nsec3_at_alias.types alias_example example A_TYPE) refl,
    by_name one_alias alias_example A_TYPE refl refl (Alias (wire_of a_example)) refl (alias_at one_alias alias_example A_TYPE (wire_of a_example) refl refl refl),
  );
  cut_at_the_name = (
    nsec3_by_tests opt_out_zone nsec3_at_c c_example refl refl refl refl refl,
    clash_free_by_tests opt_out_zone digits c_example refl refl,
    lacks nsec3_at_c.types A_TYPE refl,
    refuted (denies_decides nsec3_at_c.types c_example example A_TYPE) refl,
    by_cut opt_out_zone c_example A_TYPE refl c_example refl refl,
  );
  clash_at_the_name = (
    nsec3_by_tests two_hosts nsec3_of_all a_example refl refl refl refl refl,
    match_by_hash nsec3_of_all xx_example MX_TYPE refl refl refl,
    λ free. refuted (same_name_decides a_example xx_example) refl
        (free.of_names xx_example a_example (under_itself xx_example) ((under_decides xx_example example).0 refl) ((exists_decides two_hosts a_example).0 refl) refl),
    by_none two_hosts xx_example MX_TYPE refl refl example refl refl refl,
  );
  opted_out = (
    nsec3_by_tests opt_out_zone nsec3_opting_out a_example refl refl refl refl refl,
    nsec3_by_tests opt_out_zone opt_out_apex example refl refl refl refl refl,
    nsec3_by_tests opt_out_zone opt_out_x_w x_w_example refl refl refl refl refl,
    clash_free_by_tests opt_out_zone digits (codes "mc" ∷ c_example) refl refl,
    (between_decides nsec3_opting_out.owner nsec3_opting_out.next (digits c_example)).0 refl,
    (open_decides opt_out_apex example).0 refl,
    (no_hash_decides opt_out_x_w asterisk_example).0 refl,
    refuted (no_hash_decides nsec3_opting_out c_example) refl,
    by_cut opt_out_zone (codes "mc" ∷ c_example) A_TYPE refl c_example refl refl,
  );
  below_a_cut = (
    clash_free_by_tests hashed_zone digits (codes "x" ∷ a_example) refl refl,
    missing_by_hash nsec3_at_a (codes "x" ∷ a_example) a_example (codes "x") refl refl refl,
    (no_hash_decides nsec3_at_a (asterisk ∷ a_example)).0 refl,
    refuted (open_decides nsec3_at_a a_example) refl,
    by_cut hashed_zone (codes "x" ∷ a_example) A_TYPE refl a_example refl refl,
  );
  below_a_dname = (
    nsec3_by_tests hashed_dname nsec3_at_dname a_example refl refl refl refl refl,
    clash_free_by_tests hashed_dname digits (codes "x" ∷ a_example) refl refl,
    missing_by_hash nsec3_at_dname (codes "x" ∷ a_example) a_example (codes "x") refl refl refl,
    (no_hash_decides nsec3_at_dname (asterisk ∷ a_example)).0 refl,
    refuted (open_decides nsec3_at_dname a_example) refl,
    by_dname hashed_dname (codes "x" ∷ a_example) A_TYPE refl a_example refl refl,
  );
  name_alone_covered = (
    (no_hash_decides nsec3_at_apex (codes "c" ∷ x_w_example)).0 refl,
    (under_decides (codes "c" ∷ x_w_example) w_example).0 refl,
    (open_decides nsec3_at_w w_example).0 refl,
    x_w_is_there,
    by_none hashed_zone (codes "c" ∷ x_w_example) MX_TYPE refl refl x_w_example refl refl refl,
  );
  clash_at_the_encloser = (
    nsec3_by_tests one_wildcard nsec3_of_others a_example refl refl refl refl refl,
    error_by_hashes nsec3_of_others nsec3_of_others nsec3_of_others (codes "q" ∷ xx_example) xx_example
        (missing_by_hash nsec3_of_others (codes "q" ∷ xx_example) xx_example (codes "q") refl refl refl) refl refl,
    λ free. refuted (same_name_decides a_example xx_example) refl
        (free.of_names xx_example a_example ((under_decides (codes "q" ∷ xx_example) xx_example).0 refl) ((under_decides xx_example example).0 refl) ((exists_decides one_wildcard a_example).0 refl) refl),
    by_source one_wildcard (codes "q" ∷ xx_example) A_TYPE refl refl NoData example refl refl (nothing_made one_wildcard asterisk_example A_TYPE refl refl refl (nothing_at one_wildcard asterisk_example A_TYPE refl refl)),
  );
  wildcard_with_cname = (
    nsec3_by_tests wildcard_alias nsec3_at_wildcard_alias asterisk_example refl refl refl refl refl,
    clash_free_by_tests wildcard_alias digits xx_example refl refl,
    missing_by_hash nsec3_at_wildcard_alias xx_example example (codes "xx") refl refl refl,
    lacks nsec3_at_wildcard_alias.types A_TYPE refl,
    refuted (synthesis_decides nsec3_at_wildcard_alias.types A_TYPE) refl,
    by_source wildcard_alias xx_example A_TYPE refl refl (Alias (wire_of a_example)) example refl refl
        (as_itself (Alias (wire_of a_example)) ((exists_decides wildcard_alias asterisk_example).0 refl) (refuted (has_type_decides wildcard_alias asterisk_example NS_TYPE) refl)
        (alias_at wildcard_alias asterisk_example A_TYPE (wire_of a_example) refl refl refl) (λ e. cc)),
  );
  wildcard_with_ns = (
    nsec3_by_tests wildcard_cut nsec3_at_wildcard_cut asterisk_example refl refl refl refl refl,
    clash_free_by_tests wildcard_cut digits xx_example refl refl,
    missing_by_hash nsec3_at_wildcard_cut xx_example example (codes "xx") refl refl refl,
    lacks nsec3_at_wildcard_cut.types A_TYPE refl,
    refuted (synthesis_decides nsec3_at_wildcard_cut.types A_TYPE) refl,
    by_source wildcard_cut xx_example A_TYPE refl refl Undefined example refl refl (by_its_ns ((exists_decides wildcard_cut asterisk_example).0 refl) ((has_type_decides wildcard_cut asterisk_example NS_TYPE).0 refl)),
  );
  wildcard_with_dname = (
    nsec3_by_tests wildcard_dname nsec3_at_wildcard_dname asterisk_example refl refl refl refl refl,
    clash_free_by_tests wildcard_dname digits xx_example refl refl,
    missing_by_hash nsec3_at_wildcard_dname xx_example example (codes "xx") refl refl refl,
    lacks nsec3_at_wildcard_dname.types A_TYPE refl,
    refuted (synthesis_decides nsec3_at_wildcard_dname.types A_TYPE) refl,
    by_source wildcard_dname xx_example A_TYPE refl refl Undefined example refl refl
        (by_its_dname ((exists_decides wildcard_dname asterisk_example).0 refl) ((has_type_decides wildcard_dname asterisk_example DNAME_TYPE).0 refl) (nothing_at wildcard_dname asterisk_example A_TYPE refl refl)),
  );
  ds_of_a_wildcard = (
    set_by_tests wildcard_cut ds_set refl refl (λ e. cc) refl refl,
    missing_by_hash nsec3_at_wildcard_cut xx_example example (codes "xx") refl refl refl,
    λ proof. proof.answers.not_ds refl,
    by_source wildcard_cut xx_example DS_TYPE refl refl Undefined example refl refl (by_its_ns ((exists_decides wildcard_cut asterisk_example).0 refl) ((has_type_decides wildcard_cut asterisk_example NS_TYPE).0 refl)),
  );
  clash_at_the_wildcard = (
    nsec3_by_tests two_hosts nsec3_of_most a_example refl refl refl refl refl,
    without_type_by_hashes nsec3_of_most nsec3_of_most xx_example example MX_TYPE
        (missing_by_hash nsec3_of_most xx_example example (codes "xx") refl refl refl) refl refl,
    λ free. refuted (same_name_decides a_example asterisk_example) refl
        (free.of_sources example a_example ((below_decides xx_example example).0 refl) (under_itself example) ((exists_decides two_hosts a_example).0 refl) refl),
    by_none two_hosts xx_example MX_TYPE refl refl example refl refl refl,
  );
}
