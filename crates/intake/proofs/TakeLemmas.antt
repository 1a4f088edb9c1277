-- A table that takes in records one after the other, and then the signatures.
use Rattle.std.proofs.Common.{◌≡◌, ℕ, ◌<◌, ◌≤◌, Bool, true, false, ◌&&◌, if◌then◌else◌, List, [], ◌∷◌, ◌++◌, length, get_or, refl, sym, ◌∙◌, ap, subst}
use Rattle.std.specs.List.{All, filter, fold}
use Rattle.std.proofs.lemmas.Bool.{false_from_ne_true}
use Rattle.std.proofs.lemmas.Bool.Decides.{Decides-eqb}
use Rattle.std.proofs.lemmas.List.{append_assoc, append-nil}
use Rattle.std.proofs.lemmas.List.Elements.{filter-append, filter_passes, All-filter}
use Rattle.std.proofs.lemmas.List.Sums.{fold-append}
use Rattle.dnswire.specs.declared.rr.Rr.{Rr}
use Rattle.intake.specs.Group.{is_rrsig}
use Rattle.intake.specs.Pile.{IsTable, HasFixedPart, is_live, covered_key, signed, with_record, with_data, with_covering}
use Rattle.intake.specs.declared.pile.Pile.{Pile}
use Rattle.intake.specs.declared.table.Table.{Table}
use Rattle.intake.proofs.TableLemmas.{if_true, if_false}

-- ---- records

-- what was there before, and then the records so far
pub record HasTakenIn (now : ℕ) (piles : List Pile) (live : List Rr) (done : List Rr) (table : Table) (signatures : List Rr) : Type 0 where
  pub is_table : IsTable table
  pub piles_are : table.piles.items ≡ fold with_data piles done
  pub live_are : signatures ≡ live ++ filter (is_live now) done

pub taken_none : (now : ℕ) (table : Table) (signatures : List Rr) → IsTable table → HasTakenIn now table.piles.items signatures [] table signatures
taken_none now table signatures is = record { is_table = is; piles_are = refl; live_are = sym (append-nil signatures) }

first_false : (a b : Bool) → a ≡ false → (a && b) ≡ false
first_false true b h = cc
first_false false b h = refl

filter_yes : {X : Type 0} (p : X → Bool) (x : X) → p x ≡ true → filter p (x ∷ []) ≡ x ∷ []
filter_yes p x h = ap (λ (b : Bool). if b then x ∷ [] else []) h

filter_no : {X : Type 0} (p : X → Bool) (x : X) → p x ≡ false → filter p (x ∷ []) ≡ []
filter_no p x h = ap (λ (b : Bool). if b then x ∷ [] else []) h

live_yes : (now : ℕ) (live done signatures signatures' : List Rr) (rr : Rr) → signatures ≡ live ++ filter (is_live now) done → is_live now rr ≡ true → signatures' ≡ signatures ++ rr ∷ []
    → signatures' ≡ live ++ filter (is_live now) (done ++ rr ∷ [])
live_yes now live done signatures signatures' rr is lives pushed =
    pushed
    ∙ ap (λ rs. rs ++ rr ∷ []) is
    ∙ append_assoc live (filter (is_live now) done) (rr ∷ [])
    ∙ ap (λ rs. live ++ (filter (is_live now) done ++ rs)) (sym (filter_yes (is_live now) rr lives))
    ∙ ap (λ rs. live ++ rs) (sym (filter-append (is_live now) done (rr ∷ [])))

live_no : (now : ℕ) (live done signatures : List Rr) (rr : Rr) → signatures ≡ live ++ filter (is_live now) done → is_live now rr ≡ false → signatures ≡ live ++ filter (is_live now) (done ++ rr ∷ [])
live_no now live done signatures rr is dead =
    is
    ∙ ap (λ rs. live ++ rs) (sym (append-nil (filter (is_live now) done)))
    ∙ ap (λ rs. live ++ (filter (is_live now) done ++ rs)) (sym (filter_no (is_live now) rr dead))
    ∙ ap (λ rs. live ++ rs) (sym (filter-append (is_live now) done (rr ∷ [])))

pub taken_data : (now : ℕ) (piles : List Pile) (live done : List Rr) (table table' : Table) (signatures : List Rr) (rr : Rr) → HasTakenIn now piles live done table signatures
    → (rr.rtype ≡ 46 → ⊥) → IsTable table' → table'.piles.items ≡ with_record table.piles.items rr → HasTakenIn now piles live (done ++ rr ∷ []) table' signatures
taken_data now piles live done table table' signatures rr taken other is' added =
    let no_rrsig : is_rrsig rr ≡ false = false_from_ne_true (is_rrsig rr) (λ h. other ((Decides-eqb rr.rtype 46).0 h)) in
    record {
      is_table = is';
      piles_are =
          added
          ∙ ap (λ ps. with_record ps rr) taken.piles_are
          ∙ sym (if_false (is_rrsig rr) (fold with_data piles done) (with_record (fold with_data piles done) rr) no_rrsig)
          ∙ sym (fold-append with_data piles done (rr ∷ []));
      live_are = live_no now live done signatures rr taken.live_are (first_false (is_rrsig rr) _ no_rrsig);
    }

pub taken_rrsig : (now : ℕ) (piles : List Pile) (live done : List Rr) (table : Table) (signatures signatures' : List Rr) (rr : Rr) → HasTakenIn now piles live done table signatures
    → rr.rtype ≡ 46 → signatures' ≡ live ++ filter (is_live now) (done ++ rr ∷ []) → HasTakenIn now piles live (done ++ rr ∷ []) table signatures'
taken_rrsig now piles live done table signatures signatures' rr taken is more = record {
  is_table = taken.is_table;
  piles_are =
      taken.piles_are
      ∙ sym (if_true (is_rrsig rr) (fold with_data piles done) (with_record (fold with_data piles done) rr) ((Decides-eqb rr.rtype 46).1 is))
      ∙ sym (fold-append with_data piles done (rr ∷ []));
  live_are = more;
}

pub taken_live : (now : ℕ) (piles : List Pile) (live done : List Rr) (table : Table) (signatures signatures' : List Rr) (rr : Rr) (lives : Bool) → HasTakenIn now piles live done table signatures
    → rr.rtype ≡ 46 → lives ≡ is_live now rr → lives ≡ true → signatures' ≡ signatures ++ rr ∷ [] → HasTakenIn now piles live (done ++ rr ∷ []) table signatures'
taken_live now piles live done table signatures signatures' rr lives taken is tells lives-is pushed =
    taken_rrsig now piles live done table signatures signatures' rr taken is (live_yes now live done signatures signatures' rr taken.live_are (sym tells ∙ lives-is) pushed)

pub taken_dead : (now : ℕ) (piles : List Pile) (live done : List Rr) (table : Table) (signatures : List Rr) (rr : Rr) (lives : Bool) → HasTakenIn now piles live done table signatures
    → rr.rtype ≡ 46 → lives ≡ is_live now rr → lives ≡ false → HasTakenIn now piles live (done ++ rr ∷ []) table signatures
taken_dead now piles live done table signatures rr lives taken is tells lives-is =
    taken_rrsig now piles live done table signatures signatures rr taken is (live_no now live done signatures rr taken.live_are (sym tells ∙ lives-is))

-- ---- signatures

-- an element of the live signatures of records as a message has them
pub live_long : (now : ℕ) (rrs : List Rr) (i : ℕ) (rr : Rr) → All HasFixedPart rrs → i < length (filter (is_live now) rrs) → rr ≡ get_or (filter (is_live now) rrs) i rr → 18 ≤ length rr.octets
live_long now rrs i rr whole below is =
    let long : HasFixedPart rr = subst HasFixedPart (sym is) (All-filter (is_live now) HasFixedPart rrs whole i rr below) in
    let lives : is_live now rr ≡ true = subst (λ r. is_live now r ≡ true) (sym is) (filter_passes (is_live now) rrs i rr below) in
    long ((Decides-eqb rr.rtype 46).0 (first_true (is_rrsig rr) _ lives))
  where
    first_true : (a b : Bool) → (a && b) ≡ true → a ≡ true
    first_true true b h = refl
    first_true false b h = h

-- so many signatures have been taken in
pub record HasSigned (piles : List Pile) (done : List Rr) (table : Table) : Type 0 where
  pub is_table : IsTable table
  pub piles_are : table.piles.items ≡ fold with_covering piles done

pub signed_more : (piles : List Pile) (done : List Rr) (table table' : Table) (signature : Rr) → HasSigned piles done table → IsTable table'
    → table'.piles.items ≡ signed (covered_key signature) signature.octets table.piles.items → HasSigned piles (done ++ signature ∷ []) table'
signed_more piles done table table' signature so_far is' added = record {
  is_table = is';
  piles_are = added ∙ ap (signed (covered_key signature) signature.octets) so_far.piles_are ∙ sym (fold-append with_covering piles done (signature ∷ []));
}

pub live_of_both : (now : ℕ) (answer authority live live' : List Rr) → live ≡ [] ++ filter (is_live now) answer → live' ≡ live ++ filter (is_live now) authority → live' ≡ filter (is_live now) (answer ++ authority)
live_of_both now answer authority live live' first second = second ∙ ap (λ rs. rs ++ filter (is_live now) authority) first ∙ sym (filter-append (is_live now) answer authority)

pub piles_of_both : (answer authority : List Rr) (piles piles' : List Pile) → piles ≡ fold with_data [] answer → piles' ≡ fold with_data piles authority → piles' ≡ fold with_data [] (answer ++ authority)
piles_of_both answer authority piles piles' first second = second ∙ ap (λ ps. fold with_data ps authority) first ∙ sym (fold-append with_data [] answer authority)
