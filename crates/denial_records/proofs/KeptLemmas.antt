-- Records put together from strings say what the records said that they were made of.
use Rattle.std.proofs.Common.{◌≡◌, ℕ, List, ◌∷◌, ◌++◌, sym, ◌∙◌, ap, subst, arith}
use Rattle.dname.specs.Name.{wire_of, IsName}
use Rattle.dname.specs.Pack.{pieces_of, IsPacked}
use Rattle.dname.proofs.WireLemmas.{is_made}
use Rattle.denial_records.specs.TypeSet.{types_in, IsKept}
use Rattle.denial_records.specs.Kept.{set_in, nsec_in, nsec3_in, HoldsSet, HoldsNsec, HoldsNsec3}
use Rattle.denial_records.specs.declared.set_rec.SetRec.{SetRec}
use Rattle.denial_records.specs.declared.nsec_rec.NsecRec.{NsecRec}
use Rattle.denial_records.specs.declared.nsec3_rec.Nsec3Rec.{Nsec3Rec}

-- more strings behind those that there are
pub laid : (before after front more : List (List ℕ)) → before ≡ front → after ≡ before ++ more → after ≡ front ++ more
laid before after front more is step = step ∙ ap (λ pieces. pieces ++ more) is

-- the strings hold the record
pub record MakesSet (pieces : List (List ℕ)) (set : SetRec) : Type 0 where
  pub holds : HoldsSet pieces
  pub is : set_in pieces set.rtype set.life set.expiry ≡ set

pub record MakesNsec (pieces : List (List ℕ)) (nsec : NsecRec) : Type 0 where
  pub holds : HoldsNsec pieces
  pub is : nsec_in pieces nsec.life nsec.expiry ≡ nsec

pub record MakesNsec3 (pieces : List (List ℕ)) (nsec3 : Nsec3Rec) : Type 0 where
  pub holds : HoldsNsec3 pieces
  pub is : nsec3_in pieces nsec3.hash nsec3.next nsec3.iterations nsec3.opt_out nsec3.life nsec3.expiry ≡ nsec3

pub makes_set : (pieces : List (List ℕ)) (set : SetRec) (zone owner items : List ℕ) → pieces ≡ zone ∷ owner ∷ items ∷ set.signatures
    → zone ≡ wire_of set.zone → IsName set.zone → owner ≡ wire_of set.owner → IsName set.owner → IsPacked items → pieces_of items ≡ set.items → MakesSet pieces set
makes_set pieces set zone owner items spelled zone_is zone_name owner_is owner_name packed items_are =
    let z = is_made zone set.zone zone_is zone_name in
    let o = is_made owner set.owner owner_is owner_name in
    subst (λ p. MakesSet p set) (sym spelled) (record {
      holds = record { whole = omega arith; zone = z.wire; owner = o.wire; items = packed };
      is = λ i. record {
        zone = z.labels_are i;
        owner = o.labels_are i;
        rtype = set.rtype;
        life = set.life;
        expiry = set.expiry;
        items = items_are i;
        signatures = set.signatures;
      };
    })

pub makes_nsec : (pieces : List (List ℕ)) (nsec : NsecRec) (zone owner next types image : List ℕ) → pieces ≡ zone ∷ owner ∷ next ∷ types ∷ image ∷ nsec.signatures
    → zone ≡ wire_of nsec.zone → IsName nsec.zone → owner ≡ wire_of nsec.owner → IsName nsec.owner → next ≡ wire_of nsec.next → IsName nsec.next
    → types_in types ≡ nsec.types → IsKept types → image ≡ nsec.image → MakesNsec pieces nsec
makes_nsec pieces nsec zone owner next types image spelled zone_is zone_name owner_is owner_name next_is next_name types_are kept image_is =
    let z = is_made zone nsec.zone zone_is zone_name in
    let o = is_made owner nsec.owner owner_is owner_name in
    let n = is_made next nsec.next next_is next_name in
    subst (λ p. MakesNsec p nsec) (sym spelled) (record {
      holds = record { whole = omega arith; zone = z.wire; owner = o.wire; next = n.wire; types = kept };
      is = λ i. record {
        zone = z.labels_are i;
        owner = o.labels_are i;
        next = n.labels_are i;
        types = types_are i;
        life = nsec.life;
        expiry = nsec.expiry;
        image = image_is i;
        signatures = nsec.signatures;
      };
    })

pub makes_nsec3 : (pieces : List (List ℕ)) (nsec3 : Nsec3Rec) (zone salt types image : List ℕ) → pieces ≡ zone ∷ salt ∷ types ∷ image ∷ nsec3.signatures
    → zone ≡ wire_of nsec3.zone → IsName nsec3.zone → salt ≡ nsec3.salt → types_in types ≡ nsec3.types → IsKept types → image ≡ nsec3.image → MakesNsec3 pieces nsec3
makes_nsec3 pieces nsec3 zone salt types image spelled zone_is zone_name salt_is types_are kept image_is =
    let z = is_made zone nsec3.zone zone_is zone_name in
    subst (λ p. MakesNsec3 p nsec3) (sym spelled) (record {
      holds = record { whole = omega arith; zone = z.wire; types = kept };
      is = λ i. record {
        zone = z.labels_are i;
        hash = nsec3.hash;
        next = nsec3.next;
        salt = salt_is i;
        iterations = nsec3.iterations;
        opt_out = nsec3.opt_out;
        types = types_are i;
        life = nsec3.life;
        expiry = nsec3.expiry;
        image = image_is i;
        signatures = nsec3.signatures;
      };
    })
