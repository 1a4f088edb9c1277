-- What the signatures of a group agree in.
use Rattle.std.proofs.Common.{◌≡◌, ℕ, zero, suc, ◌^◌, ◌<◌, ◌≤◌, min, List, [], ◌∷◌, ◌++◌, length, get_or, map, refl, sym, ◌∙◌, ap, subst, arith}
use Rattle.std.specs.List.{All, AllZip}
use Rattle.std.proofs.Math.Nat.{min-eq_right}
use Rattle.std.proofs.lemmas.List.{map-append, length-append}
use Rattle.std.proofs.lemmas.List.Elements.{All-append}
use Rattle.std.proofs.lemmas.List.Sums.{fold-append}
use Rattle.std.proofs.lemmas.Slice.Zip.{all_zipped_more}
use Rattle.facts.proofs.Lists.{all_one}
use Rattle.dname.specs.Name.{Label}
use Rattle.dname.proofs.ReadLemmas.{one_name}
use Rattle.denial_records.specs.Rrsig.{IsRrsig}
use Rattle.denial_records.specs.declared.rrsig.Rrsig.{Rrsig}
use Rattle.denial_records.proofs.PartsLemmas.{one_rrsig}
use Rattle.intake.specs.Group.{seconds_to}
use Rattle.intake.specs.Signed.{Agree, Says}
use Rattle.intake.specs.SignedGroup.{IsAgreed, IsSaid, SaySame}
use Rattle.intake.specs.declared.agreed.Agreed.{Agreed}

rrsig_same : (octets : List ℕ) (a b : Rrsig) → IsRrsig octets a → IsRrsig octets b → a ≡ b
rrsig_same octets a b p q = one_rrsig octets a b p q (one_name _ a.signer b.signer p.taken q.taken p.name q.name).0

-- ---- what the signatures say is one

each_same : (octets : List (List ℕ)) (ys zs : List Rrsig) → AllZip IsRrsig octets ys → AllZip IsRrsig octets zs → ys ≡ zs
each_same [] [] [] p q = refl
each_same [] [] (z ∷ zs) p q = absurd q
each_same [] (y ∷ ys) zs p q = absurd p
each_same (x ∷ xs) [] zs p q = absurd p
each_same (x ∷ xs) (y ∷ ys) [] p q = absurd q
each_same (x ∷ xs) (y ∷ ys) (z ∷ zs) p q = ap (λ r. r ∷ ys) (rrsig_same x y z p.0 q.0) ∙ ap (λ rs. z ∷ rs) (each_same xs ys zs p.1 q.1)

pub record SameSaid (signer signer' : List Label) (labels labels' original_ttl original_ttl' : ℕ) : Type 0 where
  pub signer_same : signer ≡ signer'
  pub labels_same : labels ≡ labels'
  pub ttl_same : original_ttl ≡ original_ttl'

pub said_same : (signer signer' : List Label) (labels labels' original_ttl original_ttl' : ℕ) (r : Rrsig) → Says signer labels original_ttl r → Says signer' labels' original_ttl' r → SameSaid signer signer' labels labels' original_ttl original_ttl'
said_same signer signer' labels labels' original_ttl original_ttl' r p q = record {
  signer_same = sym p.signer_is ∙ q.signer_is;
  labels_same = sym p.labels_are ∙ q.labels_are;
  ttl_same = sym p.ttl_is ∙ q.ttl_is;
}

all_say : (signer signer' : List Label) (labels labels' original_ttl original_ttl' : ℕ) (each : List Rrsig) → 1 ≤ length each → All (Says signer labels original_ttl) each → All (Says signer' labels' original_ttl') each
    → SameSaid signer signer' labels labels' original_ttl original_ttl'
all_say signer signer' labels labels' original_ttl original_ttl' [] some p q = absurd (omega arith)
all_say signer signer' labels labels' original_ttl original_ttl' (r ∷ rs) some p q = said_same signer signer' labels labels' original_ttl original_ttl' r (p 0 r (omega arith)) (q 0 r (omega arith))

pub agree_same : (octets : List (List ℕ)) (now : ℕ) (signer signer' : List Label) (labels labels' original_ttl original_ttl' : ℕ) (left left' : List ℕ)
    → Agree octets now signer labels original_ttl left → Agree octets now signer' labels' original_ttl' left' → SameSaid signer signer' labels labels' original_ttl original_ttl' × (left ≡ left')
agree_same octets now signer signer' labels labels' original_ttl original_ttl' left left' p q =
    let same = each_same octets p.each q.each p.read q.read in (
      all_say signer signer' labels labels' original_ttl original_ttl' p.each p.some p.same (subst (All (Says signer' labels' original_ttl')) (sym same) q.same),
      p.left_is ∙ ap (map (λ (s : Rrsig). seconds_to s.expiration now)) same ∙ sym q.left_is,
    )

-- ---- one signature after the other

seconds_small : (expiration now : ℕ) → seconds_to expiration now < 2 ^ 32
seconds_small expiration now = omega arith

pub agreed_one : (now : ℕ) (octets : List ℕ) (agreed : Agreed) → IsSaid now octets agreed → IsAgreed now (octets ∷ []) agreed
agreed_one now octets agreed said = record {
  left = agreed.left ∷ [];
  agree = record {
    each = said.rrsig ∷ [];
    read = (said.read, tt);
    some = omega arith;
    same = all_one (Says agreed.signer agreed.labels agreed.original_ttl) said.rrsig said.says;
    left_is = ap (λ n. n ∷ []) said.left_is;
  };
  least =
      let small = seconds_small said.rrsig.expiration now in
      let low : agreed.left ≤ 2 ^ 32 = omega (arith, said.left_is) in
      sym (min-eq_right low);
}

pub agreed_more : (now : ℕ) (done : List (List ℕ)) (octets : List ℕ) (agreed other more : Agreed) → IsAgreed now done agreed → IsSaid now octets other → SaySame agreed other
    → more.signer ≡ agreed.signer → more.labels ≡ agreed.labels → more.original_ttl ≡ agreed.original_ttl → more.left ≡ min agreed.left other.left → IsAgreed now (done ++ octets ∷ []) more
agreed_more now done octets agreed other more is said same p q r left-is =
    let agree = is.agree in
    let says : Says more.signer more.labels more.original_ttl said.rrsig = record {
      signer_is = said.says.signer_is ∙ sym same.signer ∙ sym p;
      labels_are = said.says.labels_are ∙ sym same.labels ∙ sym q;
      ttl_is = said.says.ttl_is ∙ sym same.original_ttl ∙ sym r;
    } in
    record {
      left = is.left ++ other.left ∷ [];
      agree = record {
        each = agree.each ++ said.rrsig ∷ [];
        read = all_zipped_more IsRrsig done agree.each octets said.rrsig agree.read said.read;
        some = let long = length-append agree.each (said.rrsig ∷ []) in omega (arith, agree.some);
        same = All-append (Says more.signer more.labels more.original_ttl) agree.each (said.rrsig ∷ [])
            (subst (λ s. All (Says s more.labels more.original_ttl) agree.each) (sym p) (subst (λ l. All (Says agreed.signer l more.original_ttl) agree.each) (sym q) (subst (λ t. All (Says agreed.signer agreed.labels t) agree.each) (sym r) agree.same)))
            (all_one (Says more.signer more.labels more.original_ttl) said.rrsig says);
        left_is = ap (λ ls. ls ++ other.left ∷ []) agree.left_is ∙ ap (λ l. map (λ (s : Rrsig). seconds_to s.expiration now) agree.each ++ l ∷ []) said.left_is ∙ sym (map-append (λ (s : Rrsig). seconds_to s.expiration now) agree.each (said.rrsig ∷ []));
      };
      least = left-is ∙ ap (λ l. min l other.left) is.least ∙ sym (fold-append min (2 ^ 32) is.left (other.left ∷ []));
    }

zip_at : {A B : Type 0} (R : A → B → Type 0) (P : B → Type 0) (xs : List A) (ys : List B) (i : ℕ) (x : A) → AllZip R xs ys → All P ys → i < length xs → x ≡ get_or xs i x → (y : B) × R x y × P y
zip_at R P [] ys i x zip all below is = absurd (omega arith)
zip_at R P (x' ∷ xs) [] i x zip all below is = absurd zip
zip_at R P (x' ∷ xs) (y ∷ ys) zero x zip all below is = (y, subst (λ z. R z y) (sym is) zip.0, all 0 y (omega arith))
zip_at R P (x' ∷ xs) (y ∷ ys) (suc i) x zip all below is = zip_at R P xs ys i x zip.1 (λ k d h. all (suc k) d (omega arith)) (omega arith) is

-- what a signature among them says
pub agreed_at : (now : ℕ) (octets : List (List ℕ)) (agreed : Agreed) (i : ℕ) (x : List ℕ) → IsAgreed now octets agreed → i < length octets → x ≡ get_or octets i x
    → (r : Rrsig) × IsRrsig x r × Says agreed.signer agreed.labels agreed.original_ttl r
agreed_at now octets agreed i x is below at = zip_at IsRrsig (Says agreed.signer agreed.labels agreed.original_ttl) octets is.agree.each i x is.agree.read is.agree.same below at

-- two that agree with the same first signature say the same
pub agreed_with : (now : ℕ) (all front : List (List ℕ)) (agreed whole : Agreed) (first octets : List ℕ) (rest rest' : List (List ℕ)) (i : ℕ) (other : Agreed)
    → all ≡ first ∷ rest → front ≡ first ∷ rest' → IsAgreed now front agreed → IsAgreed now all whole → IsSaid now octets other → i < length all → octets ≡ get_or all i octets → SaySame agreed other
agreed_with now all front agreed whole first octets rest rest' i other all-is front-is is is' said below at =
    let here = agreed_at now front agreed 0 first is (omega (arith, ap length front-is)) (sym (ap (λ xs. get_or xs 0 first) front-is)) in
    let there = agreed_at now all whole 0 first is' (omega arith) (sym (ap (λ xs. get_or xs 0 first) all-is)) in
    let later = agreed_at now all whole i octets is' below at in
    let a = said_same agreed.signer whole.signer agreed.labels whole.labels agreed.original_ttl whole.original_ttl there.0 (subst (Says agreed.signer agreed.labels agreed.original_ttl) (rrsig_same first here.0 there.0 here.1 there.1) here.2) there.2 in
    let b = said_same whole.signer other.signer whole.labels other.labels whole.original_ttl other.original_ttl said.rrsig (subst (Says whole.signer whole.labels whole.original_ttl) (rrsig_same octets later.0 said.rrsig later.1 said.read) later.2) said.says in
    record {
      signer = a.signer_same ∙ b.signer_same;
      labels = a.labels_same ∙ b.labels_same;
      original_ttl = a.ttl_same ∙ b.ttl_same;
    }
