-- A made zone is a zone.
use Rattle.std.proofs.Common.{◌≡◌, ℕ, ◌<◌, ◌≤◌, List, [], ◌∷◌, map, refl, inl, inr, ⊎_elim, ◌⊎◌, arith}
use Rattle.std.specs.Prelude.{slice_index_or}
use Rattle.std.specs.List.{range_with_len}
use Rattle.std.proofs.lemmas.List.Elements.{All-cons, All-map}
use Rattle.dname.specs.Name.{IsUnder, wire_of}
use Rattle.dname.specs.declared.types.TheConstants.{A_TYPE, NS_TYPE, SOA_TYPE}
use Rattle.zone_meaning.specs.Zone.{ZoneRecord, IsZone, IsProofType}
use Rattle.zone_meaning.specs.ZoneTable.{zone_record}
use Rattle.zone_maker.specs.Made.{made_example, name_server, name_at, NameKind, Host, Above, Cut, Wild, kind_at, owner_in, type_in, record_in, soa_data, made_zone}

pub below : (kind : NameKind) (i : ℕ) → IsUnder (owner_in kind (name_at i)) made_example
below Host i = (_ ∷ [], refl)
below Above i = (_ ∷ _ ∷ [], refl)
below Cut i = (_ ∷ [], refl)
below Wild i = (_ ∷ _ ∷ [], refl)

not_number : (rtype n : ℕ) → rtype ≡ n → n < 46 → IsProofType rtype → ⊥
not_number rtype n is small proof = ⊎_elim (λ e. late 46 e (omega arith)) (λ more. ⊎_elim (λ e. late 47 e (omega arith)) (λ e. late 50 e (omega arith)) more) proof
  where
    late : (other : ℕ) → rtype ≡ other → 46 ≤ other → ⊥
    late other e large = omega arith

no_proof : (rtype : ℕ) → (rtype ≡ A_TYPE) ⊎ ((rtype ≡ NS_TYPE) ⊎ (rtype ≡ SOA_TYPE)) → IsProofType rtype → ⊥
no_proof rtype (inl is) proof = not_number rtype A_TYPE is (omega arith) proof
no_proof rtype (inr (inl is)) proof = not_number rtype NS_TYPE is (omega arith) proof
no_proof rtype (inr (inr is)) proof = not_number rtype SOA_TYPE is (omega arith) proof

plain : (kind : NameKind) → IsProofType (type_in kind) → ⊥
plain Host = no_proof A_TYPE (inl refl)
plain Above = no_proof A_TYPE (inl refl)
plain Cut = no_proof NS_TYPE (inr (inl refl))
plain Wild = no_proof A_TYPE (inl refl)

pub made_is_zone : (seed names : ℕ) → IsZone (made_zone seed names)
made_is_zone seed names = record {
  owners =
      let P : ZoneRecord → Type 0 = λ (r : ZoneRecord). IsUnder r.owner made_example in
      let rest : List ZoneRecord = map (λ i. record_in (kind_at i) seed i) (range_with_len 0 names) in
      All-cons P (zone_record made_example SOA_TYPE soa_data) (zone_record made_example NS_TYPE (wire_of name_server) ∷ rest) ([], refl)
      (All-cons P (zone_record made_example NS_TYPE (wire_of name_server)) rest ([], refl)
      (All-map P (λ i. record_in (kind_at i) seed i) (range_with_len 0 names) (λ k d short. let i : ℕ = slice_index_or (range_with_len 0 names) k d in below (kind_at i) i)));
  types =
      let P : ZoneRecord → Type 0 = λ (r : ZoneRecord). IsProofType r.rtype → ⊥ in
      let rest : List ZoneRecord = map (λ i. record_in (kind_at i) seed i) (range_with_len 0 names) in
      All-cons P (zone_record made_example SOA_TYPE soa_data) (zone_record made_example NS_TYPE (wire_of name_server) ∷ rest) (no_proof SOA_TYPE (inr (inr refl)))
      (All-cons P (zone_record made_example NS_TYPE (wire_of name_server)) rest (no_proof NS_TYPE (inr (inl refl)))
      (All-map P (λ i. record_in (kind_at i) seed i) (range_with_len 0 names) (λ k d short. let i : ℕ = slice_index_or (range_with_len 0 names) k d in plain (kind_at i))));
}
