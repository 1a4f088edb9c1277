-- Each step of a dealer keeps its rule.
use Rattle.std.proofs.Common.{◌≡◌, ◌≢◌, ◌⊎◌, inl, inr, cond, ℕ, zero, suc, ◌+◌, ◌-◌, ◌<◌, ◌≤◌, ◌==◌, eqb, true, false, List, [], ◌∷◌, ◌++◌, length, set, slice_index, refl, sym, ap, ◌∙◌, subst, ⊎_elim, arith, length-set, eq-eqb, ne_eqb}
use Rattle.std.proofs.lemmas.Bool.Decides.{nat_tests}
use Rattle.std.specs.List.{sum_by}
use Rattle.std.proofs.lemmas.List.Sums.{sum_by-append, sum_by-cons, sum_by_push}
use mathlib.Core.Option.{none, some}
use native.Mathlib.Decide.{ℕ_discrete}
use lib.ListN.{get_elem?}
use prog.Atomic.{either}
use Rattle.atomic_table.specs.Table.{State, step, Act, keeps, Valid, carried_after, stepped, Allows, Splits, Joins, Enters}
use Rattle.atomic_table.proofs.Lists.{at_set, at_snoc, set_again}
use Rattle.tied_lock.proofs.Keeps.{word_set}
use Rattle.cache_versions.specs.declared.hand.InHand.{InHand}
use Rattle.cache_versions.specs.Hands.{times, OnceBelow, in_hand, both_in_hand, DealtOnce, Deals, Comes, Holder, AreAllBelow}

-- the sum after a change of one term
pub sum_set : {A : Type 0} (f : A → ℕ) (xs : List A) (j : ℕ) (x y : A) → get_elem? xs j ≡ some x → sum_by f (set xs j y) + f x ≡ sum_by f xs + f y
sum_set f [] j x y h = absurd cc
sum_set f (z ∷ xs) zero x y h = let same : f z ≡ f x = ap f (cc h) in omega (arith, sum_by-cons f z xs, sum_by-cons f y xs)
sum_set f (z ∷ xs) (suc j) x y h = let r = sum_set f xs j x y h in omega (arith, sum_by-cons f z xs, sum_by-cons f z (set xs j y))

-- where the sum is 0 each term is
none_of : {A : Type 0} (f : A → ℕ) (xs : List A) → sum_by f xs ≡ 0 → (j : ℕ) (x : A) → get_elem? xs j ≡ some x → f x ≡ 0
none_of f [] all j x h = absurd cc
none_of f (y ∷ xs) all zero x h = let same : f y ≡ f x = ap f (cc h) in omega (arith, sum_by-cons f y xs)
none_of f (y ∷ xs) all (suc j) x h = none_of f xs (omega (arith, sum_by-cons f y xs)) j x h

no_sum : {A : Type 0} (f : A → ℕ) (xs : List A) → ((j : ℕ) (x : A) → get_elem? xs j ≡ some x → f x ≡ 0) → sum_by f xs ≡ 0
no_sum f [] all = refl
no_sum f (x ∷ xs) all = let here = all zero x refl in let rest = no_sum f xs (λ j. all (suc j)) in omega (arith, sum_by-cons f x xs)

term_le : {A : Type 0} (f : A → ℕ) (xs : List A) (j : ℕ) (x : A) → get_elem? xs j ≡ some x → f x ≤ sum_by f xs
term_le f [] j x h = absurd cc
term_le f (y ∷ xs) zero x h = let same : f y ≡ f x = ap f (cc h) in omega (arith, sum_by-cons f y xs)
term_le f (y ∷ xs) (suc j) x h = let r = term_le f xs j x h in omega (arith, sum_by-cons f y xs)

-- where one term is the whole sum of f, and g is 0 of each term that is 0 of f, that term is the whole sum of g
pub sole : {A : Type 0} (f g : A → ℕ) (xs : List A) (j : ℕ) (x : A) → get_elem? xs j ≡ some x → sum_by f xs ≡ f x → ((i : ℕ) (y : A) → get_elem? xs i ≡ some y → f y ≡ 0 → g y ≡ 0) → sum_by g xs ≡ g x
sole f g [] j x h all idle = absurd cc
sole f g (y ∷ xs) zero x h all idle =
    let same : f y ≡ f x = ap f (cc h) in
    let also : g y ≡ g x = ap g (cc h) in
    let none : sum_by f xs ≡ 0 = omega (arith, sum_by-cons f y xs) in
    let rest = no_sum g xs (λ i z e. idle (suc i) z e (none_of f xs none i z e)) in
    omega (arith, sum_by-cons g y xs)
sole f g (y ∷ xs) (suc j) x h all idle =
    let less : f x ≤ sum_by f xs = term_le f xs j x h in
    let here = idle zero y refl (omega (arith, sum_by-cons f y xs)) in
    let rest = sole f g xs j x h (omega (arith, sum_by-cons f y xs)) (λ i. idle (suc i)) in
    omega (arith, sum_by-cons g y xs)

-- how often a place stands where one more is dealt
times_one : (k n : ℕ) (places : List ℕ) → Dec (n ≡ k) → ((n ≡ k) × (times k (places ++ n ∷ []) ≡ times k places + 1)) ⊎ ((n ≢ k) × (times k (places ++ n ∷ []) ≡ times k places))
times_one k n places (yes e) = inl (e, (let push = sum_by_push (λ p. cond (p == k) 1 0) places n in let is : (n == k) ≡ true = grind (arith, nat_tests) in rw is at push))
times_one k n places (no ne) = inr (ne, (let push = sum_by_push (λ p. cond (p == k) 1 0) places n in let is : (n == k) ≡ false = grind (arith, nat_tests) in let p : times k (places ++ n ∷ []) ≡ times k places + 0 = rw is at push in omega arith))

-- one more place is dealt out
each_more : (n k all other before after : ℕ) → OnceBelow n k all → ((n ≡ k) × (after ≡ before + 1)) ⊎ ((n ≢ k) × (after ≡ before)) → other + before ≡ all + after → OnceBelow (n + 1) k other
each_more n k all other before after once (inl one) sum = ((λ lt. let z = once.1 (omega (arith, one.0)) in omega (arith, one.1)), (λ le. absurd (omega (arith, one.0))))
each_more n k all other before after once (inr one) sum = (
  (λ lt. let o = once.0 (let ne = one.0 in omega arith) in omega (arith, one.1)),
  (λ le. let z = once.1 (omega arith) in omega (arith, one.1)),
)

word_kept : (ws : List ℕ) → length ws ≡ 1 → set ws 0 (slice_index ws 0) ≡ ws
word_kept [] e = absurd (omega arith)
word_kept (x ∷ xs) e = refl

idle_set : (views : List InHand) (id : ℕ) (w : InHand) → (w.hands ≡ 0 → w.places ≡ []) → ((j : ℕ) (d : InHand) → get_elem? views j ≡ some d → d.hands ≡ 0 → d.places ≡ [])
    → (j : ℕ) (d : InHand) → get_elem? (set views id w) j ≡ some d → d.hands ≡ 0 → d.places ≡ []
idle_set views id w new all j d e = ⊎_elim (λ (t : (j ≡ id) × (w ≡ d)). subst (λ (v : InHand). v.hands ≡ 0 → v.places ≡ []) t.1 new) (λ (t : (j ≢ id) × (get_elem? views j ≡ some d)). all j d t.1) (at_set views id j w d e)

module _ (hands : ℕ) where
  abbrev Step_deals : ℕ → ℕ → Holder → ℕ → State (Unit {0}) InHand → ℕ → ℕ → Type 0
  Step_deals slots id m place s n new = (w : InHand) × (a : Act (Unit {0})) × Valid s.homes m.1 a × DealtOnce hands (stepped s 0 new id m.1 w a) × Deals (step slots 0 place (place + 1) none) m n (w, carried_after m.1 a)

  deals_by : (slots id place : ℕ) (m : Holder) (s : State (Unit {0}) InHand) → 0 < m.0.hands → DealtOnce hands s → get_elem? s.views id ≡ some m.0 → Dec (slice_index s.words 0 ≡ place)
      → Step_deals slots id m place s (slice_index s.words 0) (either (eqb (slice_index s.words 0) place) (place + 1) (slice_index s.words 0))
  deals_by slots id place m s some_hand r at (yes e) =
      let n : ℕ = slice_index s.words 0 in
      let w : InHand = in_hand m.0.hands (m.0.places ++ place ∷ []) in
      subst (λ b. Step_deals slots id m place s n (either b (place + 1) n)) (sym (eq-eqb n place e)) (
        w,
        keeps,
        tt,
        record {
          wide = length-set s.words 0 (place + 1) ∙ r.wide;
          all = (let sum = sum_set (λ d. d.hands) s.views id m.0 w at in let old = r.all in omega arith);
          each = (λ k.
              let sum = sum_set (λ d. times k d.places) s.views id m.0 w at in
              let old : OnceBelow place k (sum_by (λ d. times k d.places) s.views) = subst (λ c. OnceBelow c k (sum_by (λ d. times k d.places) s.views)) e (r.each k) in
              subst (λ c. OnceBelow c k (sum_by (λ d. times k d.places) (set s.views id w))) (sym (word_set s.words (place + 1) r.wide))
              (each_more place k _ _ (times k m.0.places) (times k w.places) old (times_one k place m.0.places (ℕ_discrete place k)) sum));
          idle = idle_set s.views id w (λ none. absurd (omega arith)) r.idle;
        },
        ((λ _. refl), (λ no. absurd (no e))),
      )
  deals_by slots id place m s some_hand r at (no ne) =
      let n : ℕ = slice_index s.words 0 in
      subst (λ b. Step_deals slots id m place s n (either b (place + 1) n)) (sym (ne_eqb n place ne)) (
        m.0,
        keeps,
        tt,
        rw (word_kept s.words r.wide, set_again s.views id m.0 at) (record { wide = r.wide; all = r.all; each = r.each; idle = r.idle }),
        ((λ e. absurd (ne e)), (λ _. refl)),
      )

  pub deals : (slots id place : ℕ) (m : Holder) → 0 < m.0.hands → Allows (DealtOnce hands) slots id m 0 (λ n. either (eqb n place) (place + 1) n) (Deals (step slots 0 place (place + 1) none) m)
  deals slots id place m some_hand s r len at fits = deals_by slots id place m s some_hand r at (ℕ_discrete (slice_index s.words 0) place)

  pub splits : (id : ℕ) (v : InHand) → 0 < v.hands → v.places ≡ [] → Splits {S = Unit {0}} (DealtOnce hands) id v (in_hand (v.hands - 1) v.places) (in_hand 1 [])
  splits id v some_hand unused s r at =
      let left : InHand = in_hand (v.hands - 1) v.places in
      let views : List InHand = set s.views id left in
      record {
        wide = r.wide;
        all = (let sum = sum_set (λ d. d.hands) s.views id v left at in let push = sum_by_push (λ d. d.hands) views (in_hand 1 []) in let old = r.all in omega arith);
        each = (λ k.
            let sum = sum_set (λ d. times k d.places) s.views id v left at in
            let push = sum_by_push (λ d. times k d.places) views (in_hand 1 []) in
            subst (λ c. OnceBelow (slice_index s.words 0) k c) (omega arith) (r.each k));
        idle = λ j d e. ⊎_elim (idle_set s.views id left (λ _. unused) r.idle j d) (λ (same : in_hand 1 [] ≡ d). subst (λ (u : InHand). u.hands ≡ 0 → u.places ≡ []) same (λ one. absurd (omega arith))) (at_snoc views (in_hand 1 []) d j e);
      }

  pub joins : (id other : ℕ) (v w : InHand) → Joins {S = Unit {0}} (DealtOnce hands) id v other w (both_in_hand v w) (in_hand 0 [])
  joins id other v w s r at apart there =
      let both : InHand = both_in_hand v w in
      let views : List InHand = set s.views id both in
      let before : get_elem? s.views other ≡ some w = ⊎_elim (λ (t : (other ≡ id) × (both ≡ w)). absurd (apart t.0)) (λ (t : (other ≢ id) × (get_elem? s.views other ≡ some w)). t.1) (at_set s.views id other both w there) in
      record {
        wide = r.wide;
        all = (let sum = sum_set (λ d. d.hands) s.views id v both at in let spent = sum_set (λ d. d.hands) views other w (in_hand 0 []) there in let old = r.all in omega arith);
        each = (λ k.
            let sum = sum_set (λ d. times k d.places) s.views id v both at in
            let spent = sum_set (λ d. times k d.places) views other w (in_hand 0 []) there in
            let more : times k both.places ≡ times k v.places + times k w.places = sum_by-append (λ p. cond (p == k) 1 0) v.places w.places in
            subst (λ c. OnceBelow (slice_index s.words 0) k c) (omega arith) (r.each k));
        idle = idle_set views other (in_hand 0 []) (λ _. refl) (idle_set s.views id both (λ z. cc (r.idle id v at (omega arith), r.idle other w before (omega arith))) r.idle);
      }

  -- who stands for all hands has the places below the next one, each once
  pub all_dealt : (s : State (Unit {0}) InHand) (id : ℕ) (v : InHand) → DealtOnce hands s → get_elem? s.views id ≡ some v → v.hands ≡ hands → AreAllBelow (slice_index s.words 0) v.places
  all_dealt s id v r at all k =
      let mine = sole (λ d. d.hands) (λ d. times k d.places) s.views id v at (r.all ∙ sym all) (λ i d e z. ap (times k) (r.idle i d e z)) in
      subst (λ c. OnceBelow (slice_index s.words 0) k c) mine (r.each k)

  -- a hand that stands for none may come at any time
  pub comes : (slots word : ℕ) → Enters {S = Unit {0}} (DealtOnce hands) slots word (λ n w. Comes (step slots word 0 0 none) (in_hand hands [], []) n (w, []))
  comes slots word s r len fits = let none : InHand = in_hand 0 [] in (
    none,
    record {
      wide = r.wide;
      all = (let push = sum_by_push (λ d. d.hands) s.views none in let old = r.all in omega arith);
      each = (λ k. let push = sum_by_push (λ d. times k d.places) s.views none in subst (λ c. OnceBelow (slice_index s.words 0) k c) (omega arith) (r.each k));
      idle = λ j d e. ⊎_elim (r.idle j d) (λ (same : none ≡ d). subst (λ (u : InHand). u.hands ≡ 0 → u.places ≡ []) same (λ _. refl)) (at_snoc s.views none d j e);
    },
    refl,
  )

pub word_is : (ws : List ℕ) (n : ℕ) → get_elem? ws 0 ≡ some n → slice_index ws 0 ≡ n
word_is [] n h = absurd cc
word_is (x ∷ xs) n h = cc h
