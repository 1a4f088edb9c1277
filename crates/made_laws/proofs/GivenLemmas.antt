-- Until its signatures expire, intake takes all groups of a made message.
use Rattle.std.proofs.Common.{◌≡◌, Bool, true, false, not, ℕ, ◌-◌, ◌^◌, ◌<◌, ◌≤◌, min, fold, List, [], ◌∷◌, length, drop, refl, sym, ◌∙◌, ap, subst, arith}
use Rattle.std.specs.Prelude.{◌==◌}
use Rattle.std.specs.List.{All, AllZip, Contains}
use Rattle.std.proofs.lemmas.Bool.{and_from}
use Rattle.std.proofs.lemmas.Bool.Decides.{Decides-eqb, Decides-ltb}
use Rattle.std.proofs.lemmas.List.Elements.{All-nil, All-cons, All-head, All-tail, All-weaker}
use Rattle.byteorder.specs.Endian.{big_number}
use Rattle.byteorder.specs.Numbers.{big_number-reads_back}
use Rattle.dname.specs.Name.{Label, wire_of}
use Rattle.dname.specs.declared.types.TheConstants.{IN_CLASS, RRSIG_TYPE}
use Rattle.dnswire.specs.declared.rr.Rr.{Rr}
use Rattle.denial_records.specs.Rrsig.{IsRrsig}
use Rattle.denial_records.specs.declared.rrsig.Rrsig.{Rrsig}
use Rattle.std.specs.Cmp.Lexicographic.{bytes_decides}
use Rattle.facts.proofs.Filters.{filter_none}
use Rattle.facts.proofs.Lists.{here, there, nothing_in}
use Rattle.dname.proofs.SameLemmas.{same_name_decides}
use Rattle.dname.specs.Tests.{each_once, same_name, same_octets}
use Rattle.intake.specs.Group.{is_rrsig, is_ahead, seconds_to, covered_type, covers}
use Rattle.intake.specs.Signed.{Says}
use Rattle.intake.specs.Stored.{owner_labels}
use Rattle.zone_maker.specs.Made.{made_example}
use Rattle.zone_maker.specs.Messages.{signature_data}
use Rattle.made_laws.proofs.WrittenLemmas.{rr_of}
use Rattle.soundness.proofs.OnceLemmas.{all_once}
use Rattle.made_laws.proofs.TakenLemmas.{apex_spelled, IsSignedBy}

-- ---- lists

-- of equal octets one is kept
pub once_alone : (xs : List (List ℕ)) (x : List ℕ) → All (λ y. y ≡ x) xs → Contains xs x → each_once same_octets xs ≡ x ∷ []
once_alone [] x all in' = absurd (nothing_in x in')
once_alone (y ∷ ys) x all in' =
    let first : y ≡ x = All-head (λ z. z ≡ x) y ys all in
    let same : (z : List ℕ) → z ≡ x → not (same_octets y z) ≡ false = λ z is. ap not ((bytes_decides y z).1 (first ∙ sym is)) in
    let rest = All-weaker (λ z. z ≡ x) (λ z. not (same_octets y z) ≡ false) same (each_once same_octets ys) (all_once same_octets (λ z. z ≡ x) ys (All-tail (λ z. z ≡ x) y ys all)) in
    ap (λ l. y ∷ l) (filter_none (λ z. not (same_octets y z)) (each_once same_octets ys) rest) ∙ ap (λ z. z ∷ []) first

pub some_once : {X : Type 0} (alike : X → X → Bool) (xs : List X) (x : X) → Contains xs x → 1 ≤ length (each_once alike xs)
some_once alike [] x in' = absurd (nothing_in x in')
some_once alike (y ∷ ys) x in' = omega arith

pub least_alive : (limit : ℕ) (xs : List ℕ) → 0 < limit → All (λ n. 0 < n) xs → 0 < fold min limit xs
least_alive limit [] some all = some
least_alive limit (x ∷ xs) some all = least_alive (min limit x) xs (omega (arith, some, All-head (λ n. 0 < n) x xs all)) (All-tail (λ n. 0 < n) x xs all)

-- ---- signatures

-- what a signature says
abbrev rrsig_of : List Label → ℕ → Rrsig
rrsig_of owner covered = record {
  covered = big_number 2 (signature_data owner covered);
  algorithm = 13;
  labels = owner_labels owner;
  original_ttl = 3600;
  expiration = 2000000000;
  inception = 900000000;
  key_tag = 1;
  signer = made_example;
}

reads_rrsig : (owner : List Label) (covered : ℕ) → IsRrsig (signature_data owner covered) (rrsig_of owner covered)
reads_rrsig owner covered = record {
  whole = omega arith;
  type_covered = refl;
  algorithm_number = refl;
  label_count = refl;
  ttl = refl;
  expires = refl;
  incepts = refl;
  tag = refl;
  taken = length (wire_of made_example);
  name = apex_spelled;
}

module _ (now : ℕ) (early : now < 2000000000) where
  left_at : seconds_to 2000000000 now ≡ 2000000000 - now
  left_at = omega (arith, early)

  some_left : 0 < seconds_to 2000000000 now
  some_left = omega (arith, left_at, early)

  ahead : is_ahead (seconds_to 2000000000 now) ≡ true
  ahead = and_from _ _ ((Decides-ltb 0 (seconds_to 2000000000 now)).1 some_left) ((Decides-ltb (seconds_to 2000000000 now) (2 ^ 31)).1 (omega (arith, left_at)))

  pub record AreSaid (rr : Rr) (signatures : List (List ℕ)) : Type 0 where
    pub each : List Rrsig
    pub read : AllZip IsRrsig signatures each
    pub same : All (Says made_example (owner_labels rr.owner) 3600) each
    pub live : All (λ (s : Rrsig). 0 < seconds_to s.expiration now) each
    pub long : length each ≡ length signatures

  pub all_said : (rr : Rr) (signatures : List (List ℕ)) → ((s : List ℕ) → Contains signatures s → IsSignedBy rr s) → AreSaid rr signatures
  all_said rr [] by = record { each = []; read = tt; same = All-nil _; live = All-nil _; long = refl }
  all_said rr (s ∷ signatures) by =
      let one = by s (here s signatures) in
      let rest = all_said rr signatures (λ x in'. by x (there s signatures x in')) in
      let said : Rrsig = rrsig_of rr.owner one.covered in
      record {
        each = said ∷ rest.each;
        read = (subst (λ o. IsRrsig o said) (sym one.is) (reads_rrsig rr.owner one.covered), rest.read);
        same = All-cons (Says made_example (owner_labels rr.owner) 3600) said rest.each (record { signer_is = refl; labels_are = refl; ttl_is = refl }) rest.same;
        live = All-cons (λ (x : Rrsig). 0 < seconds_to x.expiration now) said rest.each some_left rest.live;
        long = omega (arith, rest.long);
      }

  -- a signature covers its record
  pub signature_covers : (owner : List Label) (rtype : ℕ) (rdata : List ℕ) → rtype < 2 ^ 16 → covers now (rr_of owner rtype rdata) (rr_of owner RRSIG_TYPE (signature_data owner rtype)) ≡ true
  signature_covers owner rtype rdata small =
      let signature : Rr = rr_of owner RRSIG_TYPE (signature_data owner rtype) in
      and_from (is_rrsig signature) _ refl
      (and_from (signature.class == IN_CLASS) _ refl
      (and_from (same_name owner owner) _ ((same_name_decides owner owner).1 refl)
      (and_from (rtype == covered_type signature) _ ((Decides-eqb rtype (covered_type signature)).1 (sym (big_number-reads_back 2 rtype (drop 2 (signature_data owner rtype)) small))) ahead)))
