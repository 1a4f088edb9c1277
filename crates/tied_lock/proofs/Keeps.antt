-- Each step keeps the rule of the table.
use Rattle.std.proofs.Common.{◌≡◌, ◌≢◌, ℕ, eqb, List, [], ◌∷◌, length, set, slice_index, sym, refl, ◌∙◌, subst, ⊎_elim, arith, Option, Some, length-set, eq-eqb, ne_eqb}
use mathlib.Core.Option.{none, some}
use native.Mathlib.Decide.{ℕ_discrete}
use lib.ListN.{get_elem?}
use prog.Atomic.{either}
use Rattle.atomic_table.specs.Table.{State, step, Act, keeps, takes, gives, stepped, Allows, Enters, Valid, carried_after}
use Rattle.atomic_table.proofs.Lists.{at_set, set_here, at_snoc}
use Rattle.tied_lock.specs.Rule.{AtHomeWhileFree, sat, grabbed}

pub word_set : (ws : List ℕ) (n : ℕ) → length ws ≡ 1 → slice_index (set ws 0 n) 0 ≡ n
word_set [] n e = absurd (omega arith)
word_set (x ∷ xs) n e = refl

module _ {T K : Type 0} (ties : K → T → Type 0) (key : K) where
  abbrev Rule : State (Option T) K → Type 0
  Rule = AtHomeWhileFree (ties key) key

  keyed_set : (views : List K) (id : ℕ) (w : K) → w ≡ key → ((j : ℕ) (v : K) → get_elem? views j ≡ some v → v ≡ key) → (j : ℕ) (v : K) → get_elem? (set views id w) j ≡ some v → v ≡ key
  keyed_set views id w is all j v e = ⊎_elim (λ (t : (j ≡ id) × (w ≡ v)). sym t.1 ∙ is) (λ (t : (j ≢ id) × (get_elem? views j ≡ some v)). all j v t.1) (at_set views id j w v e)

  pub sits : (slots word : ℕ) → Enters Rule slots word (λ n w. sat {T = Option T} {K = K} (step slots word 0 0 none) (key, []) n (w, []))
  sits slots word s r len fits = (
    key,
    record { wide = r.wide; deep = r.deep; free = r.free; keyed = λ j v e. ⊎_elim (r.keyed j v) sym (at_snoc s.views key v j e) },
    refl,
  )

  abbrev Grabs : ℕ → ℕ → K → State (Option T) K → ℕ → ℕ → Type 0
  Grabs slots id v s n m = (w : K) × (a : Act (Option T)) × Valid s.homes [] a × Rule (stepped s 0 m id [] w a) × grabbed ties (step slots 0 0 1 none) (v, []) n (w, carried_after [] a)

  grabs_by : (slots id : ℕ) (v : K) (s : State (Option T) K) → Rule s → get_elem? s.views id ≡ some v → Dec (slice_index s.words 0 ≡ 0)
      → Grabs slots id v s (slice_index s.words 0) (either (eqb (slice_index s.words 0) 0) 1 (slice_index s.words 0))
  grabs_by slots id v s r at (yes e) = let got = r.free e in let is : v ≡ key = r.keyed id v at in
      subst (λ b. Grabs slots id v s (slice_index s.words 0) (either b 1 (slice_index s.words 0))) (sym (eq-eqb (slice_index s.words 0) 0 e)) (
        v,
        takes 0 (Some got.0),
        got.1,
        record {
          wide = length-set s.words 0 1 ∙ r.wide;
          deep = length-set s.homes 0 none ∙ r.deep;
          free = λ z. absurd (let one : slice_index (set s.words 0 1) 0 ≡ 1 = word_set s.words 1 r.wide in omega arith);
          keyed = keyed_set s.views id v is r.keyed;
        },
        ((λ _. (got.0, refl, subst (λ (k : K). ties k got.0) (sym is) got.2)), (λ no. absurd (no e))),
      )
  grabs_by slots id v s r at (no ne) = let is : v ≡ key = r.keyed id v at in let n : ℕ = slice_index s.words 0 in
      subst (λ b. Grabs slots id v s n (either b 1 n)) (sym (ne_eqb n 0 ne)) (
        v,
        keeps,
        tt,
        record {
          wide = length-set s.words 0 n ∙ r.wide;
          deep = r.deep;
          free = λ z. absurd (ne (sym (word_set s.words n r.wide) ∙ z));
          keyed = keyed_set s.views id v is r.keyed;
        },
        ((λ e. absurd (ne e)), (λ _. refl)),
      )

  pub grabs : (slots id : ℕ) (v : K) → Allows Rule slots id (v, []) 0 (λ n. either (eqb n 0) 1 n) (grabbed ties (step slots 0 0 1 none) (v, []))
  grabs slots id v s r len at fits = grabs_by slots id v s r at (ℕ_discrete (slice_index s.words 0) 0)

  pub gives_back : (slots id : ℕ) (v : K) (x : T) → ties key x → Allows Rule slots id (v, (0, Some x) ∷ []) 0 (λ _. 0) (λ _ _. Unit {0})
  gives_back slots id v x tied s r len at fits = (
    v,
    gives,
    tt,
    record {
      wide = length-set s.words 0 0 ∙ r.wide;
      deep = length-set s.homes 0 (some (Some x)) ∙ r.deep;
      free = λ _. (x, set_here s.homes 0 (some (Some x)) (let one = r.deep in omega arith), tied);
      keyed = keyed_set s.views id v (r.keyed id v at) r.keyed;
    },
    tt,
  )
