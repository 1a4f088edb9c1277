-- A table with one more record.
use Rattle.std.proofs.Common.{◌≡◌, ◌≢◌, ℕ, zero, suc, ◌<◌, Bool, false, List, [], ◌∷◌, ◌++◌, length, set, get_or, refl, sym, ◌∙◌, ap, subst, arith, length-append, append_assoc, ◌⊎◌, inl, inr, ⊎_elim}
use Rattle.std.specs.Prelude.{◌&&◌}
use Rattle.std.specs.Bool.{Decides}
use Rattle.std.specs.Prelude.{Result, Ok, Err, OnOk, OnErr}
use Rattle.std.specs.List.{All, AllPairs, AllByRecursion, Any, Contains, HoldsAt}
use Rattle.std.specs.List.Sorted.{IsPermutation}
use Rattle.std.specs.Cmp.Lexicographic.{bytes_decides}
use Rattle.std.proofs.lemmas.Bool.{cases_Bool}
use Rattle.std.proofs.lemmas.Bool.Decides.{same_from_decides, Decides-like, Decides-and}
use Rattle.std.proofs.lemmas.List.{map-append, get_or_default}
use Rattle.std.proofs.lemmas.List.Elements.{All-cons, All-head, All-tail, All-set, All-push, recursion_from_All, Contains-push_cases}
use Rattle.std.proofs.lemmas.List.Sorted.{IsPermutation-sym, IsPermutation-trans, IsPermutation-append_right, IsPermutation-middle, IsPermutation-to_front, All-permutation}
use Rattle.std.proofs.lemmas.Map.Keys.{IsDistinct-cons, IsDistinct-IsPermutation}
use Rattle.std.proofs.lemmas.Map.Made.{AllPairs-from_IsDistinct, IsDistinct-from_AllPairs}
use Rattle.facts.proofs.Lists.{here, there, nothing_in, here_or_there, all_by_member}
use Rattle.dname.specs.Name.{Label, IsUnder}
use Rattle.dname.specs.Tests.{same_octets}
use Rattle.zone_meaning.specs.Zone.{Zone, ZoneRecord, IsProofType, HasData}
use Rattle.zone_meaning.specs.ZoneTable.{zone_record, records_of, records_in, zone_in, IsOf, AreApart, IsTable}
use Rattle.zone_meaning.specs.declared.group.Group.{Group}
use Rattle.zone_meaning.proofs.TableLemmas.{data_at, no_data}
use Rattle.zone_meaning.proofs.ZoneTests.{is_at, at_decides, record_at}

-- ---- each once

abbrev same_record : ZoneRecord → ZoneRecord → Bool
same_record r s = is_at s.owner s.rtype r && same_octets r.octets s.octets

record_decides : (r s : ZoneRecord) → Decides (same_record r s) (r ≡ s)
record_decides r s = Decides-like (same_record r s)
    (λ h. record_at r s.owner s.rtype h.0.0 h.0.1 ∙ ap (λ (o : List ℕ). zone_record s.owner s.rtype o) h.1)
    (λ e. ((ap (λ (x : ZoneRecord). x.owner) e, ap (λ (x : ZoneRecord). x.rtype) e), ap (λ (x : ZoneRecord). x.octets) e))
    (Decides-and (is_at s.owner s.rtype r) (same_octets r.octets s.octets) (at_decides s.owner s.rtype r) (bytes_decides r.octets s.octets))

record_flips : (r s : ZoneRecord) → same_record r s ≡ same_record s r
record_flips r s = same_from_decides (same_record r s) (same_record s r) (record_decides r s) (Decides-like (same_record s r) (λ e. sym e) (λ e. sym e) (record_decides s r))

unlike_each : (r : ZoneRecord) (rs : List ZoneRecord) → (Contains rs r → ⊥) → AllByRecursion (λ s. same_record r s ≡ false) rs
unlike_each r rs new = recursion_from_All (λ s. same_record r s ≡ false) rs (all_by_member (λ s. same_record r s ≡ false) rs (λ s in'. ⊎_elim
    (λ yes. absurd (new (subst (Contains rs) (sym ((record_decides r s).0 yes)) in')))
    (λ unlike. unlike)
    (cases_Bool (same_record r s))))

once_more : (r : ZoneRecord) (rs ss : List ZoneRecord) → IsPermutation (r ∷ rs) ss → (Contains rs r → ⊥) → AllPairs (λ x y. x ≢ y) rs → AllPairs (λ x y. x ≢ y) ss
once_more r rs ss moved new once =
    AllPairs-from_IsDistinct record_decides ss
    (IsDistinct-IsPermutation same_record record_flips (r ∷ rs) ss moved
    (IsDistinct-cons same_record r rs (unlike_each r rs new) (IsDistinct-from_AllPairs record_decides rs once)))

-- ---- the records

pub records-append : (groups others : List Group) → records_in (groups ++ others) ≡ records_in groups ++ records_in others
records-append [] others = refl
records-append (g ∷ groups) others = ap (λ rs. records_of g ++ rs) (records-append groups others) ∙ sym (append_assoc (records_of g) (records_in groups) (records_in others))

pub push_permutes : (groups : List Group) (owner : List Label) (rtype : ℕ) (octets : List ℕ) → IsPermutation (zone_record owner rtype octets ∷ records_in groups) (records_in (groups ++ record { owner = owner; rtype = rtype; items = octets ∷ [] } ∷ []))
push_permutes groups owner rtype octets =
    let g : Group = record { owner = owner; rtype = rtype; items = octets ∷ [] } in
    let r = zone_record owner rtype octets in
    subst (IsPermutation (r ∷ records_in groups)) (sym (records-append groups (g ∷ [])))
    (IsPermutation-sym (records_in groups ++ r ∷ []) (r ∷ records_in groups) (IsPermutation-to_front (records_in groups) r))

abbrev pub with_item : Group → List ℕ → Group
with_item g octets = record g { items = g.items ++ octets ∷ [] }

one_item : (g : Group) (octets : List ℕ) (rs : List ZoneRecord) → IsPermutation (zone_record g.owner g.rtype octets ∷ (records_of g ++ rs)) (records_of (with_item g octets) ++ rs)
one_item g octets rs =
    let r = zone_record g.owner g.rtype octets in
    let same : records_of g ++ r ∷ rs ≡ records_of (with_item g octets) ++ rs =
    sym (append_assoc (records_of g) (r ∷ []) rs) ∙ ap (λ ss. ss ++ rs) (sym (map-append (zone_record g.owner g.rtype) g.items (octets ∷ []))) in
    subst (IsPermutation (r ∷ (records_of g ++ rs))) same
    (IsPermutation-sym (records_of g ++ r ∷ rs) (r ∷ (records_of g ++ rs)) (IsPermutation-middle (records_of g) r rs))

pub set_permutes : (groups : List Group) (place : ℕ) (g : Group) (octets : List ℕ) → place < length groups → get_or groups place g ≡ g → IsPermutation (zone_record g.owner g.rtype octets ∷ records_in groups) (records_in (set groups place (with_item g octets)))
set_permutes [] place g octets short read = absurd (omega arith)
set_permutes (h ∷ groups) zero g octets short read =
    subst (λ (x : Group). IsPermutation (zone_record g.owner g.rtype octets ∷ (records_of x ++ records_in groups)) (records_of (with_item g octets) ++ records_in groups)) (sym read)
    (one_item g octets (records_in groups))
set_permutes (h ∷ groups) (suc place) g octets short read =
    let r = zone_record g.owner g.rtype octets in
    let rest = records_in (set groups place (with_item g octets)) in
    let shorter : place < length groups = omega arith in
    IsPermutation-trans (r ∷ (records_of h ++ records_in groups)) (records_of h ++ r ∷ records_in groups) (records_of h ++ rest)
    (IsPermutation-sym (records_of h ++ r ∷ records_in groups) (r ∷ (records_of h ++ records_in groups)) (IsPermutation-middle (records_of h) r (records_in groups)))
    (IsPermutation-append_right (records_of h) (r ∷ records_in groups) rest (set_permutes groups place g octets shorter read))

-- ---- apart

set_cases : {X : Type 0} (xs : List X) (place : ℕ) (v x : X) → Contains (set xs place v) x → Contains xs x ⊎ (v ≡ x)
set_cases [] place v x in' = inl in'
set_cases (y ∷ ys) zero v x in' = ⊎_elim (λ same. inr same) (λ more. inl (there y ys x more)) (here_or_there v ys x in')
set_cases (y ∷ ys) (suc place) v x in' = ⊎_elim
    (λ same. inl (subst (Contains (y ∷ ys)) same (here y ys)))
    (λ more. ⊎_elim (λ among. inl (there y ys x among)) (λ same. inr same) (set_cases ys place v x more))
    (here_or_there y (set ys place v) x in')

apart_set : (groups : List Group) (place : ℕ) (g v : Group) → place < length groups → get_or groups place g ≡ g → IsOf v g.owner g.rtype → AreApart groups → AreApart (set groups place v)
apart_set [] place g v short read of apart = absurd (omega arith)
apart_set (h ∷ groups) zero g v short read of apart =
    (λ x in' of'. apart.0 x in' (of'.0 ∙ of.0 ∙ ap (λ (y : Group). y.owner) (sym read), of'.1 ∙ of.1 ∙ ap (λ (y : Group). y.rtype) (sym read)), apart.1)
apart_set (h ∷ groups) (suc place) g v short read of apart = (
  λ x in' of'. ⊎_elim
      (λ among. apart.0 x among of')
      (λ (same : v ≡ x). apart.0 g (place, shorter, read) (sym of.0 ∙ ap (λ (y : Group). y.owner) same ∙ of'.0, sym of.1 ∙ ap (λ (y : Group). y.rtype) same ∙ of'.1))
      (set_cases groups place v x in'),
  apart_set groups place g v shorter read of apart.1,
)
  where
    shorter : place < length groups
    shorter = omega arith

apart_push : (groups : List Group) (g : Group) → All (λ x. IsOf x g.owner g.rtype → ⊥) groups → AreApart groups → AreApart (groups ++ g ∷ [])
apart_push [] g none apart = (λ x in' of. nothing_in x in', tt)
apart_push (h ∷ groups) g none apart = (
  λ x in' of. ⊎_elim
      (λ among. apart.0 x among of)
      (λ (same : g ≡ x). All-head (λ (y : Group). IsOf y g.owner g.rtype → ⊥) h groups none (sym of.0 ∙ ap (λ (y : Group). y.owner) (sym same), sym of.1 ∙ ap (λ (y : Group). y.rtype) (sym same)))
      (Contains-push_cases groups g x in'),
  apart_push groups g (All-tail (λ (y : Group). IsOf y g.owner g.rtype → ⊥) h groups none) apart.1,
)

pushed_is_some : {X : Type 0} (xs : List X) (x : X) → xs ++ x ∷ [] ≢ []
pushed_is_some xs x e = omega (arith, ap length e, length-append xs (x ∷ []))

-- ---- the table

pub no_group : (apex : List Label) → IsTable (zone_in apex []) []
no_group apex = record {
  valid = record { owners = λ k d short. absurd (omega arith); types = λ k d short. absurd (omega arith) };
  records = refl;
  once = λ i j d less short. absurd (omega arith);
  filled = λ k d short. absurd (omega arith);
  apart = tt;
}

module _ (zone : Zone) (groups : List Group) (is : IsTable zone groups) where
  table_after : (r : ZoneRecord) → (Contains zone.records r → ⊥) → IsUnder r.owner zone.apex → (IsProofType r.rtype → ⊥) → (after : List Group) → IsPermutation (r ∷ records_in groups) (records_in after) → All (λ x. x.items ≢ []) after → AreApart after → IsTable (zone_in zone.apex after) after
  table_after r new under plain after moved filled apart =
      let moved' : IsPermutation (r ∷ zone.records) (records_in after) = subst (λ (rs : List ZoneRecord). IsPermutation (r ∷ rs) (records_in after)) (sym is.records) moved in
      record {
        valid = record {
          owners = All-permutation (λ (x : ZoneRecord). IsUnder x.owner zone.apex) (r ∷ zone.records) (records_in after) moved' (All-cons (λ (x : ZoneRecord). IsUnder x.owner zone.apex) r zone.records under is.valid.owners);
          types = All-permutation (λ (x : ZoneRecord). IsProofType x.rtype → ⊥) (r ∷ zone.records) (records_in after) moved' (All-cons (λ (x : ZoneRecord). IsProofType x.rtype → ⊥) r zone.records plain is.valid.types);
        };
        records = refl;
        once = once_more r zone.records (records_in after) moved' new is.once;
        filled = filled;
        apart = apart;
      }

  module _ (owner : List Label) (rtype : ℕ) (octets : List ℕ) (under : IsUnder owner zone.apex) (plain : IsProofType rtype → ⊥) (new : Contains zone.records (zone_record owner rtype octets) → ⊥) where
    pub table_pushed : All (λ x. IsOf x owner rtype → ⊥) groups → IsTable (zone_in zone.apex (groups ++ record { owner = owner; rtype = rtype; items = octets ∷ [] } ∷ [])) (groups ++ record { owner = owner; rtype = rtype; items = octets ∷ [] } ∷ [])
    table_pushed none =
        let g : Group = record { owner = owner; rtype = rtype; items = octets ∷ [] } in
        table_after (zone_record owner rtype octets) new under plain (groups ++ g ∷ []) (push_permutes groups owner rtype octets)
        (All-push (λ (x : Group). x.items ≢ []) groups g is.filled (λ e. pushed_is_some [] octets e))
        (apart_push groups g none is.apart)

    pub table_set : (place : ℕ) (g : Group) → place < length groups → get_or groups place g ≡ g → IsOf g owner rtype → IsTable (zone_in zone.apex (set groups place (with_item g octets))) (set groups place (with_item g octets))
    table_set place g short read of =
        let same : zone_record g.owner g.rtype octets ≡ zone_record owner rtype octets = ap (λ (o : List Label). zone_record o g.rtype octets) of.0 ∙ ap (λ (t : ℕ). zone_record owner t octets) of.1 in
        table_after (zone_record owner rtype octets) new under plain (set groups place (with_item g octets))
        (subst (λ (r : ZoneRecord). IsPermutation (r ∷ records_in groups) (records_in (set groups place (with_item g octets)))) same (set_permutes groups place g octets short read))
        (All-set (λ (x : Group). x.items ≢ []) groups place (with_item g octets) (pushed_is_some g.items octets) is.filled)
        (apart_set groups place g (with_item g octets) short read (refl, refl) is.apart)

-- ---- by what the calls say

either : {T E P Q : Type 0} (r : Result T E) → OnOk r P → OnErr r Q → P ⊎ Q
either (Ok x) p q = inl p
either (Err e) p q = inr q

on_ok : {T E : Type 0} (P Q : Type 0) (r : Result T E) → OnOk r P → (P → Q) → OnOk r Q
on_ok P Q (Ok x) p f = f p
on_ok P Q (Err e) p f = tt

module _ (apex owner : List Label) (groups after : List Group) (zone : Zone) (view : zone_in apex groups ≡ zone) (is : IsTable (zone_in apex groups) groups) (rtype : ℕ) (octets : List ℕ) where
  in_view : HasData zone owner rtype octets → HasData (zone_in apex groups) owner rtype octets
  in_view has = subst (λ (z : Zone). HasData z owner rtype octets) (sym view) has

  under_view : IsUnder owner zone.apex → IsUnder owner apex
  under_view under = subst (λ (z : Zone). IsUnder owner z.apex) (sym view) under

  moved_view : IsPermutation (zone_record owner rtype octets ∷ records_in groups) (records_in after) → IsPermutation (zone_record owner rtype octets ∷ zone.records) (records_in after)
  moved_view moved = subst (λ (z : Zone). IsPermutation (zone_record owner rtype octets ∷ z.records) (records_in after)) view moved

  module _ (none : All (λ x. IsOf x owner rtype → ⊥) groups) where
    pub begun_new : HasData zone owner rtype octets → ⊥
    begun_new has = no_data (zone_in apex groups) groups is owner rtype none (octets, in_view has)

    module _ {T E : Type 0} (r : Result T E) (ok : OnOk r (after ≡ groups ++ record { owner = owner; rtype = rtype; items = octets ∷ [] } ∷ [])) where
      pub begun_table : OnErr r (after ≡ groups) → IsUnder owner zone.apex → (IsProofType rtype → ⊥) → IsTable (zone_in apex after) after
      begun_table refused under plain = ⊎_elim
          (λ e. subst (λ (gs : List Group). IsTable (zone_in apex gs) gs) (sym e)
          (table_pushed (zone_in apex groups) groups is owner rtype octets (under_view under) plain (λ has. begun_new (subst (λ (z : Zone). HasData z owner rtype octets) view has)) none))
          (λ e. subst (λ (gs : List Group). IsTable (zone_in apex gs) gs) (sym e) is)
          (either r ok refused)

      pub begun_added : OnOk r ((HasData zone owner rtype octets → ⊥) → IsPermutation (zone_record owner rtype octets ∷ zone.records) (records_in after))
      begun_added = on_ok (after ≡ groups ++ record { owner = owner; rtype = rtype; items = octets ∷ [] } ∷ []) ((HasData zone owner rtype octets → ⊥) → IsPermutation (zone_record owner rtype octets ∷ zone.records) (records_in after)) r ok
          (λ e _. moved_view (subst (λ (gs : List Group). IsPermutation (zone_record owner rtype octets ∷ records_in groups) (records_in gs)) (sym e) (push_permutes groups owner rtype octets)))

  module _ (place : ℕ) (g : Group) (short : place < length groups) (at : HoldsAt (λ x. IsOf x owner rtype) groups place) (read : g ≡ get_or groups place g) where
    of : IsOf g owner rtype
    of = subst (λ (x : Group). IsOf x owner rtype) (sym read) (at g)

    pub found_data : Any (λ item. item ≡ octets) g.items → HasData zone owner rtype octets
    found_data any = subst (λ (z : Zone). HasData z owner rtype octets) view (((data_at (zone_in apex groups) groups is owner rtype place g short read at).1 octets).0 (subst (Contains g.items) any.4 (any.0, any.2, any.3)))

    module _ (lacks : Any (λ item. item ≡ octets) g.items → ⊥) where
      pub set_new : HasData zone owner rtype octets → ⊥
      set_new has =
          let in' = ((data_at (zone_in apex groups) groups is owner rtype place g short read at).1 octets).1 (in_view has) in
          lacks (in'.0, octets, in'.1, in'.2, refl)

      module _ {T E : Type 0} (r : Result T E) (ok : OnOk r ((x : Group) → HoldsAt (λ y. y ≡ x) groups place → after ≡ set groups place (with_item x octets))) where
        is_set : ((x : Group) → HoldsAt (λ y. y ≡ x) groups place → after ≡ set groups place (with_item x octets)) → after ≡ set groups place (with_item g octets)
        is_set each = each g (λ d. get_or_default groups place d g short ∙ sym read)

        pub set_table : OnErr r (after ≡ groups) → IsUnder owner zone.apex → (IsProofType rtype → ⊥) → IsTable (zone_in apex after) after
        set_table refused under plain = ⊎_elim
            (λ (each : (x : Group) → HoldsAt (λ y. y ≡ x) groups place → after ≡ set groups place (with_item x octets)).
            subst (λ (gs : List Group). IsTable (zone_in apex gs) gs) (sym (is_set each))
            (table_set (zone_in apex groups) groups is owner rtype octets (under_view under) plain (λ has. set_new (subst (λ (z : Zone). HasData z owner rtype octets) view has)) place g short (sym read) of))
            (λ e. subst (λ (gs : List Group). IsTable (zone_in apex gs) gs) (sym e) is)
            (either r ok refused)

        same_record_at : zone_record g.owner g.rtype octets ≡ zone_record owner rtype octets
        same_record_at = ap (λ (o : List Label). zone_record o g.rtype octets) of.0 ∙ ap (λ (t : ℕ). zone_record owner t octets) of.1

        pub set_added : OnOk r ((HasData zone owner rtype octets → ⊥) → IsPermutation (zone_record owner rtype octets ∷ zone.records) (records_in after))
        set_added = on_ok ((x : Group) → HoldsAt (λ y. y ≡ x) groups place → after ≡ set groups place (with_item x octets)) ((HasData zone owner rtype octets → ⊥) → IsPermutation (zone_record owner rtype octets ∷ zone.records) (records_in after)) r ok
            (λ each _. moved_view (subst (λ (gs : List Group). IsPermutation (zone_record owner rtype octets ∷ records_in groups) (records_in gs)) (sym (is_set each))
            (subst (λ (x : ZoneRecord). IsPermutation (x ∷ records_in groups) (records_in (set groups place (with_item g octets)))) same_record_at (set_permutes groups place g octets short (sym read)))))
