use Rattle.std.proofs.Common.{◌≤◌, ◌≡◌, [], ◌∷◌, length, refl, ap, arith, inl, inr, ⊎_elim}
use Rattle.std.specs.Prelude.{codes}
use Rattle.std.proofs.lemmas.Bool.Decides.{not_from_Decides}
use Rattle.std.specs.List.{All, Contains}
use Rattle.std.proofs.lemmas.List.Elements.{All-head}
use Rattle.std.specs.Cmp.Lexicographic.{bytes_decides}
use Rattle.facts.proofs.Lists.{here, there, nothing_in, here_or_there}
use Rattle.dname.specs.Name.{IsUnder}
use Rattle.dname.specs.Name.{wire_of}
use Rattle.dname.specs.declared.types.TheConstants.{A_TYPE, DS_TYPE, MX_TYPE, NSEC3_TYPE, NSEC_TYPE, NS_TYPE, RRSIG_TYPE, SOA_TYPE}
use Rattle.dname.proofs.UnderLemmas.{under_is_longer}
use Rattle.zone_meaning.specs.Zone.{ZoneRecord, IsProofType, IsCut}
use Rattle.zone_meaning.specs.Examples.{address, record_of, example, a_example, b_example, sub_example, two_hosts, one_cut, wildcards, soa_data}
use Rattle.zone_meaning.proofs.ZoneTests.{is_cut, cut_decides, has_type, has_type_decides, has_data, has_data_decides, is_live, live_decides}
use Rattle.zone_meaning.proofs.ConsistentTests.{is_proof_type, proof_type_decides, inside_decides, lacks, lists}
use Rattle.zone_meaning.proofs.examples.what_is_not_true_of_a_zone.Goals as goal

pub returns : goal.returns
returns c = record {
  owner_outside = λ is. too_short (under_is_longer [] example (only (λ (r : ZoneRecord). IsUnder r.owner example) (record_of [] A_TYPE (address 1)) is.owners));
  rrsig_kept = λ is. only (λ (r : ZoneRecord). IsProofType r.rtype → ⊥) (record_of example RRSIG_TYPE []) is.types (inl refl);
  nsec_kept = λ is. only (λ (r : ZoneRecord). IsProofType r.rtype → ⊥) (record_of example NSEC_TYPE []) is.types (inr (inl refl));
  nsec3_kept = λ is. only (λ (r : ZoneRecord). IsProofType r.rtype → ⊥) (record_of example NSEC3_TYPE []) is.types (inr (inr refl));
  next_skipped = λ is. is.none_between b_example ((live_decides two_hosts b_example).0 refl) ((inside_decides a_example example b_example).0 refl);
  type_missing = λ is. lacks (RRSIG_TYPE ∷ NSEC_TYPE ∷ []) A_TYPE refl
      ((is.types_agree A_TYPE (not_from_Decides (is_proof_type A_TYPE) (proof_type_decides A_TYPE) refl) (λ cut. absurd (whole cut))).0 ((has_type_decides two_hosts a_example A_TYPE).0 refl));
  type_added = λ is. not_from_Decides (has_type two_hosts a_example MX_TYPE) (has_type_decides two_hosts a_example MX_TYPE) refl
      ((is.types_agree MX_TYPE (not_from_Decides (is_proof_type MX_TYPE) (proof_type_decides MX_TYPE) refl) (λ cut. absurd (whole cut))).1 (lists (A_TYPE ∷ MX_TYPE ∷ RRSIG_TYPE ∷ NSEC_TYPE ∷ []) MX_TYPE refl));
  ds_added = λ is. not_from_Decides (has_type one_cut sub_example DS_TYPE) (has_type_decides one_cut sub_example DS_TYPE) refl
      ((is.types_agree DS_TYPE (not_from_Decides (is_proof_type DS_TYPE) (proof_type_decides DS_TYPE) refl) (λ cut. inr (inl refl))).1 (lists (NS_TYPE ∷ DS_TYPE ∷ RRSIG_TYPE ∷ NSEC_TYPE ∷ []) DS_TYPE refl));
  next_is_glue = λ is. not_from_Decides (is_live one_cut (codes "ns" ∷ sub_example)) (live_decides one_cut (codes "ns" ∷ sub_example)) refl is.next_live;
  item_missing = λ is. lacks_item ((is.data_there (wire_of (codes "ns" ∷ codes "example" ∷ codes "net" ∷ []))).1 ((has_data_decides wildcards example NS_TYPE (wire_of (codes "ns" ∷ codes "example" ∷ codes "net" ∷ []))).0 refl));
  item_added = λ is. not_from_Decides (has_data two_hosts example SOA_TYPE []) (has_data_decides two_hosts example SOA_TYPE []) refl ((is.data_there []).0 (there soa_data ([] ∷ []) [] (here [] [])));
  no_items = λ is. is.not_empty refl;
  of_another_zone = λ is. omega (arith, ap length is.apex);
  glue_at_the_cut = λ is. not_ds (is.authority ((cut_decides one_cut sub_example).0 refl));
  glue_below_the_cut = λ is. not_from_Decides (is_live one_cut (codes "ns" ∷ sub_example)) (live_decides one_cut (codes "ns" ∷ sub_example)) refl is.live;
}
  where
    only : (P : ZoneRecord → Type 0) (r : ZoneRecord) → All P (r ∷ []) → P r
    only P r all = All-head P r [] all

    too_short : 1 ≤ 0 → ⊥
    too_short le = omega arith

    whole : IsCut two_hosts a_example → ⊥
    whole = not_from_Decides (is_cut two_hosts a_example) (cut_decides two_hosts a_example) refl

    not_ds : A_TYPE ≡ DS_TYPE → ⊥
    not_ds e = omega arith

    lacks_item : Contains (wire_of (codes "ns" ∷ codes "example" ∷ codes "com" ∷ []) ∷ []) (wire_of (codes "ns" ∷ codes "example" ∷ codes "net" ∷ [])) → ⊥
    lacks_item in' = ⊎_elim (λ e. apart e) (λ none. nothing_in _ none) (here_or_there (wire_of (codes "ns" ∷ codes "example" ∷ codes "com" ∷ [])) [] (wire_of (codes "ns" ∷ codes "example" ∷ codes "net" ∷ [])) in')
      where
        apart : wire_of (codes "ns" ∷ codes "example" ∷ codes "com" ∷ []) ≡ wire_of (codes "ns" ∷ codes "example" ∷ codes "net" ∷ []) → ⊥
        apart = not_from_Decides _ (bytes_decides (wire_of (codes "ns" ∷ codes "example" ∷ codes "com" ∷ [])) (wire_of (codes "ns" ∷ codes "example" ∷ codes "net" ∷ []))) refl
