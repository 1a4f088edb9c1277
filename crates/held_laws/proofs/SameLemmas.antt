-- What is looked up is the same for another order of the records.
use Rattle.std.proofs.Common.{◌≡◌, ◌⊎◌, ◌↔◌, ℕ, inl, inr, Bool, true, false, true≢false, suc, zero, List, [], ◌∷◌, cond, All, Contains, find, Option, Some, None, refl, sym, ◌∙◌, ap, subst, arith}
use Rattle.std.specs.List.{list_any}
use Rattle.std.specs.Option.{option_or}
use Rattle.std.specs.Ordering.{nat_cmp}
use Rattle.std.specs.Cmp.{IsTotalOrder}
use Rattle.std.specs.Cmp.Lexicographic.{slice_cmp}
use Rattle.std.specs.declared.cmp.Ordering.{Ordering}
use Rattle.std.proofs.lemmas.Bool.{and_parts, and_from}
use Rattle.std.proofs.lemmas.Bool.Decides.{Decides-eqb}
use Rattle.std.proofs.lemmas.Cmp.{nat_list_cmp_total}
use Rattle.std.proofs.lemmas.Grind.{common_steps}
use Rattle.std.proofs.lemmas.List.Elements.{All-contains}
use Rattle.std.proofs.lemmas.Option.{none-some, cond_some}
use Rattle.dname.specs.Arc.{arc_has, arcs_meet}
use Rattle.dname.specs.Name.{Label, canonical_cmp}
use Rattle.dname.specs.Order.{canonical_total}
use Rattle.dname.proofs.SameLemmas.{name_equal, same_names}
use Rattle.denial_records.specs.declared.set_rec.SetRec.{SetRec}
use Rattle.denial_records.specs.declared.nsec_rec.NsecRec.{NsecRec}
use Rattle.denial_records.specs.declared.nsec3_rec.Nsec3Rec.{Nsec3Rec}
use Rattle.denial_records.specs.declared.record.Record.{Record}
use Rattle.denial_records.specs.declared.record.Record.TheVariants.{Set, Nsec, Nsec3}
use Rattle.cache_meaning.specs.Held.{Held, HashParameters, same_parameters, parameters_of, displaces}
use Rattle.cache_meaning.specs.Zones.{zone_for, candidates, first_of, as_set_at, as_nsec_at, as_nsec3_at, set_at, nsec_at, nsec3_at}
use Rattle.cache_meaning.proofs.ChainLemmas.{parameters_equal, parameters_itself}
use Rattle.facts.proofs.Lists.{here, there, here_or_there, nothing_in}
use Rattle.held_laws.specs.HeldLaws.{IsApart, NoneDisplaces, SetsOnce, NsecsOnce, Nsec3sOnce, IsReordered}
use Rattle.held_laws.proofs.ListLemmas.{found, is_found}

-- ---- the first that a choice gives

module _ {A B : Type 0} (choose : A → Option B) where
  pub one_found : (xs : List A) (b : B) → first_of choose xs ≡ Some b → (x : A) × Contains xs x × (choose x ≡ Some b)
  one_found [] b is = absurd (none-some _ is)
  one_found (x ∷ xs) b is = by (choose x) refl is (one_found xs b)
    where
      by : (o : Option B) → choose x ≡ o → option_or o (first_of choose xs) ≡ Some b → (first_of choose xs ≡ Some b → (y : A) × Contains xs y × (choose y ≡ Some b)) → (y : A) × Contains (x ∷ xs) y × (choose y ≡ Some b)
      by None it h rest = ((rest h).0, there x xs (rest h).0 (rest h).1, (rest h).2)
      by (Some c) it h rest = (x, here x xs, it ∙ h)

  pub none_found : (xs : List A) → first_of choose xs ≡ None → (x : A) → Contains xs x → choose x ≡ None
  none_found [] is x has = absurd (nothing_in x has)
  none_found (y ∷ xs) is x has = by (choose y) refl is (here_or_there y xs x has) (λ h. none_found xs h x)
    where
      by : (o : Option B) → choose y ≡ o → option_or o (first_of choose xs) ≡ None → (y ≡ x) ⊎ Contains xs x → (first_of choose xs ≡ None → Contains xs x → choose x ≡ None) → choose x ≡ None
      by None it h (inl same) rest = ap choose (sym same) ∙ it
      by None it h (inr later) rest = rest h later
      by (Some c) it h has rest = absurd (none-some _ (sym h))

  pub same_first : (xs ys : List A) → ((x y : A) (a b : B) → Contains xs x → Contains xs y → choose x ≡ Some a → choose y ≡ Some b → a ≡ b) → ((x : A) → Contains xs x ↔ Contains ys x) → first_of choose xs ≡ first_of choose ys
  same_first xs ys one same = by (first_of choose xs) (first_of choose ys) refl refl
    where
      by : (o p : Option B) → first_of choose xs ≡ o → first_of choose ys ≡ p → o ≡ p
      by None None is are = refl
      by None (Some b) is are =
          let y = one_found ys b are in
          absurd (none-some _ (sym (none_found xs is y.0 ((same y.0).1 y.1)) ∙ y.2))
      by (Some a) None is are =
          let x = one_found xs a is in
          absurd (none-some _ (sym (none_found ys are x.0 ((same x.0).0 x.1)) ∙ x.2))
      by (Some a) (Some b) is are =
          let x = one_found xs a is in
          let y = one_found ys b are in
          ap (λ c. Some c) (one x.0 y.0 a b x.1 ((same y.0).1 y.1) x.2 y.2)

-- ---- of records of which none displaces another, one has a key

pub one_of_key : (xs : List Record) → NoneDisplaces xs → (x y : Record) → Contains xs x → Contains xs y → displaces x y ≡ true → x ≡ y
one_of_key [] apart x y has has' is = absurd (nothing_in x has)
one_of_key (z ∷ xs) apart x y has has' is =
    by (here_or_there z xs x has) (here_or_there z xs y has')
    (λ h h'. one_of_key xs (λ i j d below within. apart (suc i) (suc j) d (omega arith) (omega arith)) x y h h' is)
  where
    head : All (IsApart z) xs
    head = λ j d within. apart zero (suc j) d (omega arith) (omega arith)

    by : (z ≡ x) ⊎ Contains xs x → (z ≡ y) ⊎ Contains xs y → (Contains xs x → Contains xs y → x ≡ y) → x ≡ y
    by (inl same) (inl same') rest = sym same ∙ same'
    by (inl same) (inr h') rest = absurd (true≢false (sym is ∙ ap (λ r. displaces r y) (sym same) ∙ (All-contains (IsApart z) xs y head h').0))
    by (inr h) (inl same') rest = absurd (true≢false (sym is ∙ ap (λ r. displaces x r) (sym same') ∙ (All-contains (IsApart z) xs x head h).1))
    by (inr h) (inr h') rest = rest h h'

-- arcs that have one key meet
arcs_of_one_key : {K : Type 0} (cmp : K → K → Ordering) → IsTotalOrder cmp → (a b a' b' k : K) → arc_has cmp a b k ≡ true → arc_has cmp a' b' k ≡ true → arcs_meet cmp a b a' b' ≡ true
arcs_of_one_key cmp total a b a' b' k has has' = grind (arith, common_steps, total)

-- ---- what the choices give

set_chosen : (zone owner : List Label) (rtype : ℕ) (x : Record) (a : SetRec) → as_set_at zone owner rtype x ≡ Some a → (x ≡ Set a) × (a.zone ≡ zone) × (a.owner ≡ owner) × (a.rtype ≡ rtype)
set_chosen zone owner rtype (Set set) a is =
    let chosen = cond_some _ set a is in
    let first = and_parts _ _ chosen.0 in
    let second = and_parts _ _ first.1 in
    (ap (λ s. Set s) chosen.1, ap (λ s. s.zone) (sym chosen.1) ∙ name_equal _ _ first.0, ap (λ s. s.owner) (sym chosen.1) ∙ name_equal _ _ second.0, ap (λ s. s.rtype) (sym chosen.1) ∙ (Decides-eqb _ _).0 second.1)
set_chosen zone owner rtype (Nsec nsec) a is = absurd (none-some _ is)
set_chosen zone owner rtype (Nsec3 nsec3) a is = absurd (none-some _ is)

nsec_chosen : (zone name : List Label) (x : Record) (a : NsecRec) → as_nsec_at zone name x ≡ Some a → (x ≡ Nsec a) × (a.zone ≡ zone) × (arc_has canonical_cmp a.owner a.next name ≡ true)
nsec_chosen zone name (Set set) a is = absurd (none-some _ is)
nsec_chosen zone name (Nsec nsec) a is =
    let chosen = cond_some _ nsec a is in
    let parts = and_parts _ _ chosen.0 in
    (ap (λ s. Nsec s) chosen.1, ap (λ s. s.zone) (sym chosen.1) ∙ name_equal _ _ parts.0, subst (λ s. arc_has canonical_cmp s.owner s.next name ≡ true) chosen.1 parts.1)
nsec_chosen zone name (Nsec3 nsec3) a is = absurd (none-some _ is)

nsec3_chosen : (zone : List Label) (parameters : HashParameters) (hash : List ℕ) (x : Record) (a : Nsec3Rec) → as_nsec3_at zone parameters hash x ≡ Some a → (x ≡ Nsec3 a) × (a.zone ≡ zone) × (parameters_of a ≡ parameters) × (arc_has (slice_cmp nat_cmp) a.hash a.next hash ≡ true)
nsec3_chosen zone parameters hash (Set set) a is = absurd (none-some _ is)
nsec3_chosen zone parameters hash (Nsec nsec) a is = absurd (none-some _ is)
nsec3_chosen zone parameters hash (Nsec3 nsec3) a is =
    let chosen = cond_some _ nsec3 a is in
    let first = and_parts _ _ chosen.0 in
    let second = and_parts _ _ first.1 in
    (ap (λ s. Nsec3 s) chosen.1, ap (λ s. s.zone) (sym chosen.1) ∙ name_equal _ _ first.0, ap parameters_of (sym chosen.1) ∙ parameters_equal _ _ second.0, subst (λ s. arc_has (slice_cmp nat_cmp) s.hash s.next hash ≡ true) chosen.1 second.1)

abbrev set_of : Record → SetRec → SetRec
set_of (Set set) other = set
set_of (Nsec nsec) other = other
set_of (Nsec3 nsec3) other = other

abbrev nsec_of : Record → NsecRec → NsecRec
nsec_of (Set set) other = other
nsec_of (Nsec nsec) other = nsec
nsec_of (Nsec3 nsec3) other = other

abbrev nsec3_of : Record → Nsec3Rec → Nsec3Rec
nsec3_of (Set set) other = other
nsec3_of (Nsec nsec) other = other
nsec3_of (Nsec3 nsec3) other = nsec3

-- ---- of each key one

pub sets_once : (records : List Record) → NoneDisplaces records → SetsOnce records
sets_once records apart one other has has' zones owners types =
    let meet : displaces (Set one) (Set other) ≡ true = and_from _ _ (same_names _ _ zones) (and_from _ _ (same_names _ _ owners) ((Decides-eqb _ _).1 types)) in
    ap (λ r. set_of r one) (one_of_key records apart (Set one) (Set other) has has' meet)

pub nsecs_once : (records : List Record) → NoneDisplaces records → NsecsOnce records
nsecs_once records apart one other has has' zones arcs =
    let meet : displaces (Nsec one) (Nsec other) ≡ true = and_from _ _ (same_names _ _ zones) arcs in
    ap (λ r. nsec_of r one) (one_of_key records apart (Nsec one) (Nsec other) has has' meet)

pub nsec3s_once : (records : List Record) → NoneDisplaces records → Nsec3sOnce records
nsec3s_once records apart one other has has' zones chains arcs =
    let same : same_parameters (parameters_of one) (parameters_of other) ≡ true = subst (λ p. same_parameters (parameters_of one) p ≡ true) chains (parameters_itself (parameters_of one)) in
    let meet : displaces (Nsec3 one) (Nsec3 other) ≡ true = and_from _ _ (same_names _ _ zones) (and_from _ _ same arcs) in
    ap (λ r. nsec3_of r one) (one_of_key records apart (Nsec3 one) (Nsec3 other) has has' meet)

-- ---- the laws

pub same_set : (held other : Held) → NoneDisplaces held.records → IsReordered held other → (zone owner : List Label) (rtype : ℕ) → set_at held zone owner rtype ≡ set_at other zone owner rtype
same_set held other apart order zone owner rtype =
    same_first (as_set_at zone owner rtype) held.records other.records (λ x y a b has has' is is'.
    let one = set_chosen zone owner rtype x a is in
    let two = set_chosen zone owner rtype y b is' in
    sets_once held.records apart a b (subst (Contains held.records) one.0 has) (subst (Contains held.records) two.0 has') (one.1 ∙ sym two.1) (one.2 ∙ sym two.2) (one.3 ∙ sym two.3))
    order.records

pub same_nsec : (held other : Held) → NoneDisplaces held.records → IsReordered held other → (zone name : List Label) → nsec_at held zone name ≡ nsec_at other zone name
same_nsec held other apart order zone name =
    same_first (as_nsec_at zone name) held.records other.records (λ x y a b has has' is is'.
    let one = nsec_chosen zone name x a is in
    let two = nsec_chosen zone name y b is' in
    nsecs_once held.records apart a b (subst (Contains held.records) one.0 has) (subst (Contains held.records) two.0 has') (one.1 ∙ sym two.1)
    (arcs_of_one_key canonical_cmp canonical_total a.owner a.next b.owner b.next name one.2 two.2))
    order.records

pub same_nsec3 : (held other : Held) → NoneDisplaces held.records → IsReordered held other → (zone : List Label) (parameters : HashParameters) (hash : List ℕ) → nsec3_at held zone parameters hash ≡ nsec3_at other zone parameters hash
same_nsec3 held other apart order zone parameters hash =
    same_first (as_nsec3_at zone parameters hash) held.records other.records (λ x y a b has has' is is'.
    let one = nsec3_chosen zone parameters hash x a is in
    let two = nsec3_chosen zone parameters hash y b is' in
    nsec3s_once held.records apart a b (subst (Contains held.records) one.0 has) (subst (Contains held.records) two.0 has') (one.1 ∙ sym two.1) (one.2 ∙ sym two.2)
    (arcs_of_one_key (slice_cmp nat_cmp) nat_list_cmp_total a.hash a.next b.hash b.next hash one.3 two.3))
    order.records

pub same_any : {X : Type 0} (p : X → Bool) (xs ys : List X) → ((x : X) → Contains xs x ↔ Contains ys x) → list_any p xs ≡ list_any p ys
same_any p xs ys same = by (list_any p xs) (list_any p ys) refl refl
  where
    by : (b d : Bool) → list_any p xs ≡ b → list_any p ys ≡ d → b ≡ d
    by true true is are = refl
    by true false is are = let x = found p xs is in sym (is_found p ys x.0 ((same x.0).0 x.1) x.2) ∙ are
    by false true is are = let y = found p ys are in sym is ∙ is_found p xs y.0 ((same y.0).1 y.1) y.2
    by false false is are = refl

same_find : {X : Type 0} (p q : X → Bool) → ((x : X) → p x ≡ q x) → (xs : List X) → find p xs ≡ find q xs
same_find p q same [] = refl
same_find p q same (x ∷ xs) = λ i. cond (same x i) (Some x) (same_find p q same xs i)

pub same_zone : (held other : Held) → IsReordered held other → (name : List Label) (qtype : ℕ) → zone_for held name qtype ≡ zone_for other name qtype
same_zone held other order name qtype = same_find _ _ (λ zone. same_any _ held.records other.records order.records) (candidates name qtype)
