-- A table's piles by their places.
use Rattle.std.proofs.Common.{◌≡◌, ℕ, zero, suc, ◌+◌, ◌<◌, ◌≤◌, ◌⊎◌, inl, inr, Bool, true, false, ◌&&◌, ◌||◌, ◌==◌, cond, if◌then◌else◌, List, [], ◌∷◌, ◌++◌, length, get_or, set, Option, Some, None, BTreeMap, Result, Ok, Err, OnOk, refl, sym, ◌∙◌, ap, subst, arith}
use Rattle.std.specs.List.{list_any}
use Rattle.std.specs.Option.{option_map}
use Rattle.std.specs.Bool.{Decides}
use Rattle.std.proofs.lemmas.Bool.{and_from, and_parts}
use Rattle.std.specs.Cmp.{unsigned_ties}
use Rattle.std.proofs.lemmas.Bool.Decides.{same_from_decides, Decides-eqb}
use Rattle.std.specs.Cmp.Lexicographic.{pointwise_decides, bytes_decides}
use Rattle.std.specs.Ordering.{nat_cmp, is_eq, ordering_then}
use Rattle.std.specs.declared.cmp.Ordering.{Ordering}
use Rattle.std.specs.declared.cmp.Ordering.TheVariants.{Less, Equal, Greater}
use Rattle.std.specs.BTreeMap.{get, Updates}
use Rattle.std.proofs.lemmas.List.{length-set, length_push}
use Rattle.dname.specs.Name.{canonical_cmp}
use Rattle.dname.specs.Order.{canonical_ties}
use Rattle.dname.specs.Tests.{same_name}
use Rattle.intake.specs.Pile.{IsTable, HasPlaces, place_of, changed_first, has_key, key_of_pile, key_cmp}
use Rattle.intake.specs.declared.key.Key.{Key}
use Rattle.intake.specs.declared.pile.Pile.{Pile}
use Rattle.intake.specs.declared.table.Table.{Table}

-- ---- keys

abbrev pub same_key : Key → Key → Bool
same_key a b = same_name a.owner b.owner && ((a.class == b.class) && (a.rtype == b.rtype))

then_tied : (o p : Ordering) → is_eq (ordering_then o p) ≡ (is_eq o && is_eq p)
then_tied Less p = refl
then_tied Equal p = refl
then_tied Greater p = refl

pub key_tied : (a b : Key) → is_eq (key_cmp a b) ≡ same_key a b
key_tied a b =
    then_tied (canonical_cmp a.owner b.owner) (ordering_then (nat_cmp a.class b.class) (nat_cmp a.rtype b.rtype))
    ∙ ap (λ t. t && is_eq (ordering_then (nat_cmp a.class b.class) (nat_cmp a.rtype b.rtype))) (sym (canonical_ties a.owner b.owner))
    ∙ ap (λ t. same_name a.owner b.owner && t) (then_tied (nat_cmp a.class b.class) (nat_cmp a.rtype b.rtype))
    ∙ ap (λ t. same_name a.owner b.owner && (t && is_eq (nat_cmp a.rtype b.rtype))) (sym (unsigned_ties a.class b.class))
    ∙ ap (λ t. same_name a.owner b.owner && ((a.class == b.class) && t)) (sym (unsigned_ties a.rtype b.rtype))

-- ---- places

abbrev pub found_here : Bool → Option ℕ → Option ℕ
found_here here later = if here then Some 0 else option_map (λ place. suc place) later

later_from : (b : Bool) (later : Option ℕ) (i : ℕ) → found_here b later ≡ Some i → ((b ≡ true) × (i ≡ 0)) ⊎ ((b ≡ false) × ((j : ℕ) × (later ≡ Some j) × (i ≡ suc j)))
later_from true later i found = inl (refl, cc)
later_from false None i found = absurd (cc)
later_from false (Some j) i found = inr (refl, (j, refl, cc))

none_from : (b : Bool) (later : Option ℕ) → found_here b later ≡ None → (b ≡ false) × (later ≡ None)
none_from true later none = absurd (cc)
none_from false None none = (refl, refl)
none_from false (Some j) none = absurd (cc)

pub place_below : {X : Type 0} (test : X → Bool) (xs : List X) (i : ℕ) → place_of test xs ≡ Some i → i < length xs
place_below test [] i found = absurd (cc)
place_below test (x ∷ xs) i found =
    elim (later_from (test x) (place_of test xs) i found) [
      | inl here ↦ omega (arith, here.1)
      | inr later ↦ let below = place_below test xs later.1.0 later.1.1 in omega (arith, later.1.2, below)
    ]

pub if_true : {X : Type 0} (b : Bool) (x y : X) → b ≡ true → (if b then x else y) ≡ x
if_true true x y h = refl
if_true false x y h = cc

pub if_false : {X : Type 0} (b : Bool) (x y : X) → b ≡ false → (if b then x else y) ≡ y
if_false true x y h = cc
if_false false x y h = refl

pub place_changed : {X : Type 0} (test : X → Bool) (change : X → X) (xs : List X) (i : ℕ) (d : X) → place_of test xs ≡ Some i → changed_first test change xs ≡ set xs i (change (get_or xs i d))
place_changed test change [] i d found = absurd (cc)
place_changed test change (x ∷ xs) i d found =
    elim (later_from (test x) (place_of test xs) i found) [
      | inl here ↦ if_true (test x) (change x ∷ xs) (x ∷ changed_first test change xs) here.0 ∙ ap (λ n. set (x ∷ xs) n (change (get_or (x ∷ xs) n d))) (sym here.1)
      | inr later ↦
          if_false (test x) (change x ∷ xs) (x ∷ changed_first test change xs) later.0
          ∙ ap (λ ys. x ∷ ys) (place_changed test change xs later.1.0 d later.1.1)
          ∙ ap (λ n. set (x ∷ xs) n (change (get_or (x ∷ xs) n d))) (sym later.1.2)
    ]

pub place_any : {X : Type 0} (test : X → Bool) (xs : List X) (i : ℕ) → place_of test xs ≡ Some i → list_any test xs ≡ true
place_any test [] i found = absurd (cc)
place_any test (x ∷ xs) i found =
    elim (later_from (test x) (place_of test xs) i found) [
      | inl here ↦ ap (λ b. b || list_any test xs) here.0
      | inr later ↦ ap (λ b. b || list_any test xs) later.0 ∙ place_any test xs later.1.0 later.1.1
    ]

pub place_none : {X : Type 0} (test : X → Bool) (xs : List X) → place_of test xs ≡ None → list_any test xs ≡ false
place_none test [] none = refl
place_none test (x ∷ xs) none =
    let rest = none_from (test x) (place_of test xs) none in
    ap (λ b. b || list_any test xs) rest.0 ∙ place_none test xs rest.1

pub place_unchanged : {X : Type 0} (test : X → Bool) (change : X → X) (xs : List X) → place_of test xs ≡ None → changed_first test change xs ≡ xs
place_unchanged test change [] none = refl
place_unchanged test change (x ∷ xs) none =
    let rest = none_from (test x) (place_of test xs) none in
    if_false (test x) (change x ∷ xs) (x ∷ changed_first test change xs) rest.0 ∙ ap (λ ys. x ∷ ys) (place_unchanged test change xs rest.1)

pub place_set : {X : Type 0} (test : X → Bool) (xs : List X) (i : ℕ) (x y : X) → i < length xs → x ≡ get_or xs i x → test y ≡ test x → place_of test (set xs i y) ≡ place_of test xs
place_set test [] i x y below is same = absurd (omega arith)
place_set test (w ∷ ws) zero x y below is same = ap (λ b. found_here b (place_of test ws)) (same ∙ ap test is)
place_set test (w ∷ ws) (suc i) x y below is same = ap (found_here (test w)) (place_set test ws i x y (omega arith) is same)

-- where one is put last
abbrev pub found_last : Option ℕ → Bool → ℕ → Option ℕ
found_last (Some i) last size = Some i
found_last None last size = if last then Some size else None

found_last-suc : (later : Option ℕ) (last : Bool) (size : ℕ) → option_map (λ place. suc place) (found_last later last size) ≡ found_last (option_map (λ place. suc place) later) last (suc size)
found_last-suc (Some i) last size = refl
found_last-suc None true size = refl
found_last-suc None false size = refl

pub place_push : {X : Type 0} (test : X → Bool) (xs : List X) (y : X) → place_of test (xs ++ y ∷ []) ≡ found_last (place_of test xs) (test y) (length xs)
place_push test [] y = alone (test y)
  where
    alone : (b : Bool) → found_here b None ≡ (if b then Some 0 else None)
    alone true = refl
    alone false = refl
place_push test (x ∷ xs) y = ap (found_here (test x)) (place_push test xs y) ∙ behind (test x) (place_of test xs)
  where
    behind : (b : Bool) (later : Option ℕ) → found_here b (found_last later (test y) (length xs)) ≡ found_last (found_here b later) (test y) (suc (length xs))
    behind true later = refl
    behind false later = found_last-suc later (test y) (length xs)

-- ---- the table

pub on_ok : {T E : Type 0} (result : Result T E) (P Q : Type 0) → (P → Q) → OnOk result P → OnOk result Q
on_ok (Ok x) P Q step holds = step holds
on_ok (Err e) P Q step holds = tt

pub table_with : (table : Table) (i : ℕ) (pile pile' : Pile) (piles : List Pile) → IsTable table → i < length table.piles.items → pile ≡ get_or table.piles.items i pile
    → ((key : Key) → has_key key pile' ≡ has_key key pile) → piles ≡ set table.piles.items i pile' → 8 < length piles → HasPlaces table.places piles
table_with table i pile pile' piles is below at same set-is many key =
    is.places (let sizes = ap length set-is ∙ length-set table.piles.items i pile' in omega (arith, many, sizes)) key ∙ sym (place_set (has_key key) table.piles.items i pile pile' below at (same key)) ∙ ap (place_of (has_key key)) (sym set-is)

same_parts : (a a' : List (List ℕ)) (b b' c c' : ℕ) → a ≡ a' → b ≡ b' → c ≡ c'
    → (let x : Key = record { owner = a; class = b; rtype = c } in let y : Key = record { owner = a'; class = b'; rtype = c' } in x ≡ y)
same_parts a a' b b' c c' p q r = cc

pub key_decides : (a b : Key) → Decides (same_key a b) (a ≡ b)
key_decides a b = (same, λ is. subst (λ (k : Key). same_key a k ≡ true) is itself)
  where
    same : same_key a b ≡ true → a ≡ b
    same h =
        let p = and_parts (same_name a.owner b.owner) ((a.class == b.class) && (a.rtype == b.rtype)) h in
        let q = and_parts (a.class == b.class) (a.rtype == b.rtype) p.1 in
        let owners : a.owner ≡ b.owner = (pointwise_decides bytes_decides a.owner b.owner).0 p.0 in
        let classes : a.class ≡ b.class = (Decides-eqb a.class b.class).0 q.0 in
        let types : a.rtype ≡ b.rtype = (Decides-eqb a.rtype b.rtype).0 q.1 in
        same_parts a.owner b.owner a.class b.class a.rtype b.rtype owners classes types

    itself : same_key a a ≡ true
    itself =
        and_from (same_name a.owner a.owner) ((a.class == a.class) && (a.rtype == a.rtype))
        ((pointwise_decides bytes_decides a.owner a.owner).1 refl)
        (and_from (a.class == a.class) (a.rtype == a.rtype) ((Decides-eqb a.class a.class).1 refl) ((Decides-eqb a.rtype a.rtype).1 refl))

pub same_key-sym : (a b : Key) → same_key a b ≡ same_key b a
same_key-sym a b = same_from_decides (same_key a b) (same_key b a) (key_decides a b) (λ h. sym ((key_decides b a).0 h), λ e. (key_decides b a).1 (sym e))

found_last-false : (later : Option ℕ) (last : Bool) (size : ℕ) → last ≡ false → later ≡ found_last later last size
found_last-false (Some i) last size h = refl
found_last-false None last size h = ap (λ (b : Bool). if b then Some size else None) (sym h)

more_at : (b last : Bool) (later : Option ℕ) (size count : ℕ) → b ≡ last → (b ≡ true → later ≡ None) → size ≡ count → cond b (Some size) later ≡ found_last later last count
more_at true last later size count same absent is =
    subst (λ (l : Option ℕ). Some size ≡ found_last l last count) (sym (absent refl))
    (subst (λ (b : Bool). Some size ≡ (if b then Some count else None)) same (ap (λ n. Some n) is))
more_at false last later size count same absent is = found_last-false later last count (sym same)

-- with a new key at the end
pub table_more : (places places' : BTreeMap Key ℕ) (piles : List Pile) (key : Key) (pile : Pile) (size : ℕ)
    → ((q : Key) → get key_cmp places q ≡ place_of (has_key q) piles) → place_of (has_key key) piles ≡ None
    → ((q : Key) → has_key q pile ≡ same_key q key) → size ≡ length piles → Updates key_cmp places places' key (Some size)
    → (q : Key) → get key_cmp places' q ≡ place_of (has_key q) (piles ++ pile ∷ [])
table_more places places' piles key pile size is absent same size-is updates q =
    let tied : is_eq (key_cmp key q) ≡ has_key q pile = key_tied key q ∙ same_key-sym key q ∙ sym (same q) in
    updates.0 q
    ∙ ap (cond (is_eq (key_cmp key q)) (Some size)) (is q)
    ∙ more_at (is_eq (key_cmp key q)) (has_key q pile) (place_of (has_key q) piles) size (length piles) tied
    (λ h. subst (λ (k : Key). place_of (has_key k) piles ≡ None) ((key_decides key q).0 (sym (key_tied key q) ∙ h)) absent)
    size-is
    ∙ sym (place_push (has_key q) piles pile)

-- where one of the piles before has the key
pub table_held : (places : BTreeMap Key ℕ) (piles : List Pile) (pile : Pile) (i : ℕ) → HasPlaces places piles → get key_cmp places (key_of_pile pile) ≡ Some i
    → HasPlaces places (piles ++ pile ∷ [])
table_held places piles pile i is held q = is q ∙ behind (same_key q (key_of_pile pile)) refl ∙ sym (place_push (has_key q) piles pile)
  where
    kept : (later : Option ℕ) (last : Bool) → later ≡ Some i → later ≡ found_last later last (length piles)
    kept (Some j) last h = refl
    kept None last h = cc

    behind : (b : Bool) → same_key q (key_of_pile pile) ≡ b → place_of (has_key q) piles ≡ found_last (place_of (has_key q) piles) (has_key q pile) (length piles)
    behind true h = kept (place_of (has_key q) piles) (has_key q pile) (sym (is q) ∙ ap (get key_cmp places) ((key_decides q (key_of_pile pile)).0 h) ∙ held)
    behind false h = found_last-false (place_of (has_key q) piles) (has_key q pile) (length piles) h

-- with a new key at the end, where there is a map
pub table_begun : (after : Table) (front piles : List Pile) (pile : Pile) (places places' : BTreeMap Key ℕ) (key : Key) (size : ℕ)
    → after.piles.items ≡ front ++ pile ∷ [] → front ≡ piles → after.places ≡ places'
    → HasPlaces places piles → place_of (has_key key) piles ≡ None
    → ((q : Key) → has_key q pile ≡ same_key q key) → size ≡ length piles → Updates key_cmp places places' key (Some size)
    → IsTable after
table_begun after front piles pile places places' key size items front-is places-is is absent same size-is updates = record {
  places = λ many q. ap (λ m. get key_cmp m q) places-is ∙ table_more places places' piles key pile size is absent same size-is updates q
      ∙ ap (place_of (has_key q)) (sym (items ∙ ap (λ ps. ps ++ pile ∷ []) front-is));
}

-- with a pile at the end, where there are few
pub table_few : (after : Table) (front piles : List Pile) (pile : Pile) → after.piles.items ≡ front ++ pile ∷ [] → front ≡ piles → length piles < 8 → IsTable after
table_few after front piles pile items front-is few = record {
  places = λ many q. absurd (let sizes = ap length items ∙ length_push front pile in let fronts = ap length front-is in omega (arith, many, sizes, fronts, few));
}

-- ---- a search one after the other

-- none of the first so many passes
abbrev pub NoneBefore : {X : Type 0} → (X → Bool) → List X → ℕ → Type 0
NoneBefore test xs zero = Unit {0}
NoneBefore test [] (suc n) = Unit {0}
NoneBefore test (x ∷ xs) (suc n) = (test x ≡ false) × NoneBefore test xs n

first_fails : {X : Type 0} (test : X → Bool) (xs : List X) (i : ℕ) (x : X) → NoneBefore test xs i → i < length xs → x ≡ get_or xs i x → test x ≡ false → NoneBefore test xs (suc i)
first_fails test [] i x none below is fails = tt
first_fails test (w ∷ ws) zero x none below is fails = (ap test (sym is) ∙ fails, tt)
first_fails test (w ∷ ws) (suc i) x none below is fails = (none.0, first_fails test ws i x none.1 (omega arith) is fails)

pub one_more_fails : {X : Type 0} (test : X → Bool) (xs : List X) (i : ℕ) (x : X) → NoneBefore test xs i → i < length xs → x ≡ get_or xs i x → test x ≡ false → NoneBefore test xs (i + 1)
one_more_fails test xs i x none below is fails =
    let next : suc i ≡ i + 1 = omega arith in subst (λ (n : ℕ). NoneBefore test xs n) next (first_fails test xs i x none below is fails)

pub first_at : {X : Type 0} (test : X → Bool) (xs : List X) (i : ℕ) (x : X) → NoneBefore test xs i → i < length xs → x ≡ get_or xs i x → test x ≡ true → place_of test xs ≡ Some i
first_at test [] i x none below is passes = absurd (omega arith)
first_at test (w ∷ ws) zero x none below is passes = ap (λ b. found_here b (place_of test ws)) (ap test (sym is) ∙ passes)
first_at test (w ∷ ws) (suc i) x none below is passes =
    ap (λ b. found_here b (place_of test ws)) none.0
    ∙ ap (option_map (λ place. suc place)) (first_at test ws i x none.1 (omega arith) is passes)

pub none_at_all : {X : Type 0} (test : X → Bool) (xs : List X) (i : ℕ) → NoneBefore test xs i → length xs ≤ i → place_of test xs ≡ None
none_at_all test [] i none past = refl
none_at_all test (x ∷ xs) zero none past = absurd (omega (arith, past))
none_at_all test (x ∷ xs) (suc i) none past =
    ap (λ b. found_here b (place_of test xs)) none.0
    ∙ ap (option_map (λ place. suc place)) (none_at_all test xs i none.1 (omega (arith, past)))

and_holds : (x y z : Bool) → y ≡ true → z ≡ true → x ≡ (x && (y && z))
and_holds true y z h i = sym (and_from y z h i)
and_holds false y z h i = refl

pub has_all : (key : Key) (pile : Pile) (owners : Bool) → key.rtype ≡ pile.rtype → key.class ≡ pile.class → owners ≡ same_name key.owner pile.owner → owners ≡ has_key key pile
has_all key pile owners types classes is =
    is
    ∙ and_holds (same_name key.owner pile.owner) (key.class == pile.class) (key.rtype == pile.rtype) ((Decides-eqb key.class pile.class).1 classes) ((Decides-eqb key.rtype pile.rtype).1 types)
