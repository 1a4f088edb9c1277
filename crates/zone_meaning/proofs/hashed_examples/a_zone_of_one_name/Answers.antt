use Rattle.std.proofs.Common.{◌≡◌, ◌≢◌, ℕ, List, ◌∷◌, refl, sym, ◌∙◌, ap, subst, ⊎_elim}
use Rattle.std.specs.Prelude.{codes}
use Rattle.std.specs.Cmp.Lexicographic.{nat_list_cmp_total}
use Rattle.std.specs.FinMap.{slice_cmp-IsAntisymmetric, nat_cmp-IsAntisymmetric}
use Rattle.dname.specs.Name.{Label, asterisk}
use Rattle.dname.specs.Arc.{IsInside}
use Rattle.dname.specs.declared.types.TheConstants.{DNAME_TYPE, NS_TYPE}
use Rattle.dname.proofs.ArcLemmas.{no_end_inside, whole_ring}
use Rattle.dname.proofs.SameLemmas.{same_name_decides}
use Rattle.dname.proofs.UnderLemmas.{under_itself, under_both, under_step}
use Rattle.dname.specs.Tests.{same_name}
use Rattle.zone_meaning.specs.Zone.{Exists}
use Rattle.zone_meaning.specs.Examples.{example, a_example, asterisk_example}
use Rattle.zone_meaning.specs.Hashed.{hash_cmp, IsConsistentNsec3, IsClashFree}
use Rattle.zone_meaning.specs.HashedDenial.{IsNoHashedName}
use Rattle.zone_meaning.specs.HashedExamples.{one_name, nsec3_alone}
use Rattle.zone_meaning.proofs.ZoneTests.{exists_decides}
use Rattle.zone_meaning.proofs.ConsistentTests.{zone_by_test, types_agree, lacks}
use Rattle.zone_meaning.proofs.HashedTests.{each_existing}
use Rattle.zone_meaning.proofs.hashed_examples.a_zone_of_one_name.Goals as goal

only_one : (name : List Label) → Exists one_name name → name ≡ example
only_one = each_existing one_name (λ y. same_name y example) (λ y. y ≡ example) (λ y. same_name_decides y example) refl

true_alone : (hash : List Label → List ℕ) → IsConsistentNsec3 one_name (nsec3_alone hash)
true_alone hash = record {
  apex = refl;
  named = example;
  there = (exists_decides one_name example).0 refl;
  hashed = refl;
  types_agree = types_agree one_name example (nsec3_alone hash).types refl;
  none_between = λ clear name there inside. (no_end_inside hash_cmp nat_list_cmp_total (hash example) (hash example)).0
      (subst (λ n. IsInside hash_cmp (hash example) (hash example) (hash n)) (only_one name there) inside);
}

apart : (hash : List Label → List ℕ) → hash a_example ≢ hash example → hash asterisk_example ≢ hash example → IsClashFree one_name hash a_example
apart hash off off' = record {
  of_names = λ above other under within there same. ⊎_elim
      (λ e. absurd (off (ap hash e ∙ sym same ∙ ap hash (only_one other there))))
      (λ up. only_one other there ∙ under_both example above up within)
      (under_step (codes "a") example above under);
  of_sources = λ above other below within there same. ⊎_elim
      (λ e. absurd (below.1 e))
      (λ up. absurd (off' (ap (λ (n : List Label). hash (asterisk ∷ n)) (under_both example above up within) ∙ sym same ∙ ap hash (only_one other there))))
      (under_step (codes "a") example above below.0);
}

covered : (hash : List Label → List ℕ) (name : List Label) → hash name ≢ hash example → IsNoHashedName (nsec3_alone hash) name
covered hash name off = record { inside = whole_ring hash_cmp nat_list_cmp_total (slice_cmp-IsAntisymmetric nat_cmp-IsAntisymmetric) (hash example) (hash name) off; no_opt_out = refl }

pub returns : goal.returns
returns c = record {
  zone = zone_by_test one_name refl;
  nsec3 = true_alone;
  free = apart;
  no_a = λ hash off off'. record {
    missing = record { within = under_itself example; label = codes "a"; above = under_itself a_example; no_name = covered hash a_example off };
    nearest = record { matches = refl; no_dname = lacks (nsec3_alone hash).types DNAME_TYPE refl; no_cut = λ in'. absurd (lacks (nsec3_alone hash).types NS_TYPE refl in') };
    no_wildcard = covered hash asterisk_example off';
  };
}
