use Rattle.std.proofs.Common.{List, [], ◌∷◌, refl}
use Rattle.std.specs.Prelude.{codes}
use Rattle.facts.proofs.Lists.{nothing_in}
use Rattle.dname.specs.Name.{Label, wire_of, asterisk}
use Rattle.dname.specs.declared.types.TheConstants.{A_TYPE, CNAME_TYPE, DNAME_TYPE, DS_TYPE, MX_TYPE, NS_TYPE}
use Rattle.dname.proofs.UnderLemmas.{under_itself}
use Rattle.zone_meaning.specs.Zone.{IsLive}
use Rattle.zone_meaning.specs.Lookup.{Answer, Alias, NoData, Undefined, by_its_ns, by_its_dname, with_no_encloser}
use Rattle.zone_meaning.specs.Examples.{example, a_example, b_example, address, turns, alias_example, moved_example, low_moved_example, both_example, low_both_example, cut_example, dname_example, no_records}
use Rattle.zone_meaning.proofs.ZoneTests.{has_type_decides, exists_decides}
use Rattle.zone_meaning.proofs.LookupTests.{by_cut, by_dname, by_name, by_none, by_source, nothing_at, data_at, alias_at, data_made, meets_nothing_decides}
use Rattle.zone_meaning.proofs.ConsistentTests.{zone_by_test}
use Rattle.zone_meaning.proofs.examples.lookups_at_every_turn.Goals as goal

pub returns : goal.returns
returns c = record {
  zone = zone_by_test turns refl;
  least_alias = by_name turns alias_example A_TYPE refl refl (Alias (wire_of a_example)) refl (alias_at turns alias_example A_TYPE (wire_of a_example) refl refl refl);
  both_aliases = by_name turns alias_example CNAME_TYPE refl refl (Answer (wire_of a_example ∷ wire_of b_example ∷ [])) refl (data_at turns alias_example CNAME_TYPE (wire_of a_example ∷ wire_of b_example ∷ []) refl refl);
  at_the_dname = by_name turns moved_example A_TYPE refl refl NoData refl (nothing_at turns moved_example A_TYPE refl refl);
  the_dname = by_name turns moved_example DNAME_TYPE refl refl (Answer (wire_of a_example ∷ [])) refl (data_at turns moved_example DNAME_TYPE (wire_of a_example ∷ []) refl refl);
  below_the_dname = by_dname turns (codes "x" ∷ moved_example) A_TYPE refl moved_example refl refl;
  topmost_dname = by_dname turns (codes "x" ∷ low_moved_example) A_TYPE refl moved_example refl refl;
  cut_first = by_cut turns (codes "x" ∷ both_example) A_TYPE refl both_example refl refl;
  topmost_cut = by_cut turns (codes "x" ∷ low_both_example) A_TYPE refl both_example refl refl;
  ds_at_the_cut = by_name turns both_example DS_TYPE refl refl NoData refl (nothing_at turns both_example DS_TYPE refl refl);
  wildcard_cut = by_source turns (codes "x" ∷ cut_example) A_TYPE refl refl Undefined cut_example refl refl
      (by_its_ns ((exists_decides turns (asterisk ∷ cut_example)).0 refl) ((has_type_decides turns (asterisk ∷ cut_example) NS_TYPE).0 refl));
  wildcard_dname = by_source turns (codes "x" ∷ dname_example) MX_TYPE refl refl Undefined dname_example refl refl
      (by_its_dname ((exists_decides turns (asterisk ∷ dname_example)).0 refl) ((has_type_decides turns (asterisk ∷ dname_example) DNAME_TYPE).0 refl) (nothing_at turns (asterisk ∷ dname_example) MX_TYPE refl refl));
  wildcard_a = by_source turns (codes "x" ∷ dname_example) A_TYPE refl refl (Answer (address 2 ∷ [])) dname_example refl refl
      (data_made turns (asterisk ∷ dname_example) A_TYPE (address 2 ∷ []) refl refl (data_at turns (asterisk ∷ dname_example) A_TYPE (address 2 ∷ []) refl refl));
  no_name = by_none turns (codes "x" ∷ a_example) A_TYPE refl refl a_example refl refl refl;
  nothing_at_all = record {
    within = under_itself example;
    found = with_no_encloser ((meets_nothing_decides no_records example A_TYPE).0 refl) (λ other under there. nobody there.live);
  };
}
  where
    nobody : {owner : List Label} → IsLive no_records owner → ⊥
    nobody live = let is = live.owner in nothing_in _ is.1.1
