-- A list of which the first of those that are alike is kept, where what is alike has the same key.
use Rattle.std.proofs.Common.{◌≡◌, ◌<◌, length, arith, Bool, true, false, not, ◌||◌, List, [], ◌∷◌, ◌++◌, if◌then◌else◌, refl, sym, ◌∙◌, ap}
use Rattle.std.specs.List.{filter, list_any}
use Rattle.std.specs.Bool.{Decides}
use Rattle.std.proofs.lemmas.Bool.Decides.{same_from_decides}
use Rattle.std.proofs.lemmas.List.Elements.{filter-append}
use Rattle.std.proofs.lemmas.Map.Views.{any-filter_same}
use Rattle.dname.specs.Tests.{each_once}

pub record IsByKey {X K : Type 0} (alike : X → X → Bool) (key : X → K) : Type 0 where
  pub decides : (x y : X) → Decides (alike x y) (key x ≡ key y)

pub alike-sym : {X K : Type 0} (alike : X → X → Bool) (key : X → K) → IsByKey alike key → (x y : X) → alike x y ≡ alike y x
alike-sym alike key by x y = same_from_decides (alike x y) (alike y x) (by.decides x y) (λ h. sym ((by.decides y x).0 h), λ e. (by.decides y x).1 (sym e))

pub alike_both : {X K : Type 0} (alike : X → X → Bool) (key : X → K) → IsByKey alike key → (x y z : X) → alike z x ≡ true → alike z y ≡ true → alike x y ≡ true
alike_both alike key by x y z p q = (by.decides x y).1 (sym ((by.decides z x).0 p) ∙ (by.decides z y).0 q)

pub true_or_false : (b : Bool) → b ≡ false → b ≡ true → ⊥
true_or_false b p q = cc

-- ---- tests of lists

or_same : (b p q : Bool) → (b ≡ false → p ≡ q) → (b || p) ≡ (b || q)
or_same true p q h = refl
or_same false p q h = h refl

not_from : (b : Bool) → (b ≡ true → ⊥) → not b ≡ true
not_from true h = absurd (h refl)
not_from false h = refl

-- what passes a narrower test passes the wider one
pub any_less : {X : Type 0} (narrow wide : X → Bool) → ((x : X) → narrow x ≡ true → wide x ≡ true) → (xs : List X) → list_any wide xs ≡ false → list_any narrow xs ≡ false
any_less narrow wide less [] h = refl
any_less narrow wide less (x ∷ xs) h = none (narrow x) (wide x) (list_any narrow xs) (list_any wide xs) (less x) (any_less narrow wide less xs) h
  where
    none : (n w ns ws : Bool) → (n ≡ true → w ≡ true) → (ws ≡ false → ns ≡ false) → (w || ws) ≡ false → (n || ns) ≡ false
    none true w ns ws p q h = let e = p refl in cc
    none false true ns ws p q h = cc
    none false false ns ws p q h = q h

pub any_head : (b c : Bool) → (b || c) ≡ false → b ≡ false
any_head true c h = h
any_head false c h = refl

pub any_tail : (b c : Bool) → (b || c) ≡ false → c ≡ false
any_tail true c h = cc
any_tail false c h = h

pub filter_none : {X : Type 0} (p : X → Bool) (xs : List X) → list_any p xs ≡ false → filter p xs ≡ []
filter_none p [] h = refl
filter_none p (x ∷ xs) h = none x (filter p xs) (p x) (any_head (p x) (list_any p xs) h) (filter_none p xs (any_tail (p x) (list_any p xs) h))
  where
    none : {X : Type 0} (x : X) (ys : List X) (b : Bool) → b ≡ false → ys ≡ [] → (if b then x ∷ ys else ys) ≡ []
    none x ys true h e = cc
    none x ys false h e = e

-- ---- each once

-- an element is new where none before is alike
abbrev pub new_in : {X : Type 0} → (X → X → Bool) → List X → X → List X
new_in alike xs x = if list_any (alike x) xs then [] else x ∷ []

any_others : {X K : Type 0} (alike : X → X → Bool) (key : X → K) → IsByKey alike key → (y x : X) (xs : List X) → alike x y ≡ false
    → list_any (alike x) (filter (λ z. not (alike y z)) xs) ≡ list_any (alike x) xs
any_others alike key by y x xs apart =
    any-filter_same (alike x) (λ z. not (alike y z)) true
    (λ z p. not_from (alike y z) (λ q. true_or_false (alike x y) apart ((by.decides x y).1 ((by.decides x z).0 p ∙ sym ((by.decides y z).0 q)))))
    xs

pub any_once : {X K : Type 0} (alike : X → X → Bool) (key : X → K) → IsByKey alike key → (x : X) (xs : List X) → list_any (alike x) (each_once alike xs) ≡ list_any (alike x) xs
any_once alike key by x [] = refl
any_once alike key by x (y ∷ ys) =
    or_same (alike x y) (list_any (alike x) (filter (λ z. not (alike y z)) (each_once alike ys))) (list_any (alike x) ys)
    (λ apart. any_others alike key by y x (each_once alike ys) apart ∙ any_once alike key by x ys)

new_among : {X : Type 0} (p : X → Bool) (x : X) (a b : Bool) → p x ≡ not b → filter p (if a then [] else x ∷ []) ≡ (if b || a then [] else x ∷ [])
new_among p x true true h = refl
new_among p x true false h = refl
new_among p x false true h = ap (λ (c : Bool). if c then x ∷ [] else []) h
new_among p x false false h = ap (λ (c : Bool). if c then x ∷ [] else []) h

pub once_more : {X K : Type 0} (alike : X → X → Bool) (key : X → K) → IsByKey alike key → (xs : List X) (x : X) → each_once alike (xs ++ x ∷ []) ≡ each_once alike xs ++ new_in alike xs x
once_more alike key by [] x = refl
once_more {X = X} alike key by (y ∷ ys) x =
    let others = λ (z : X). not (alike y z) in
    ap (λ zs. y ∷ filter others zs) (once_more alike key by ys x)
    ∙ ap (λ zs. y ∷ zs) (filter-append others (each_once alike ys) (new_in alike ys x))
    ∙ ap (λ zs. y ∷ (filter others (each_once alike ys) ++ zs))
    (new_among others x (list_any (alike x) ys) (alike x y) (ap not (alike-sym alike key by y x)))

-- no two are alike
abbrev pub AreApart : {X : Type 0} → (X → X → Bool) → List X → Type 0
AreApart alike [] = Unit {0}
AreApart alike (x ∷ xs) = (list_any (alike x) xs ≡ false) × AreApart alike xs

any_kept : {X : Type 0} (p test : X → Bool) (xs : List X) → list_any test xs ≡ false → list_any test (filter p xs) ≡ false
any_kept p test [] h = refl
any_kept p test (x ∷ xs) h = keep p test x (filter p xs) (p x) (any_head (test x) (list_any test xs) h) (any_kept p test xs (any_tail (test x) (list_any test xs) h))
  where
    keep : {X : Type 0} (p test : X → Bool) (x : X) (ys : List X) (b : Bool) → test x ≡ false → list_any test ys ≡ false → list_any test (if b then x ∷ ys else ys) ≡ false
    keep p test x ys true h e = cc
    keep p test x ys false h e = e

apart_filter : {X : Type 0} (alike : X → X → Bool) (p : X → Bool) (xs : List X) → AreApart alike xs → AreApart alike (filter p xs)
apart_filter alike p [] apart = tt
apart_filter alike p (x ∷ xs) apart = kept alike x (filter p xs) (p x) (any_kept p (alike x) xs apart.0) (apart_filter alike p xs apart.1)
  where
    kept : {X : Type 0} (alike : X → X → Bool) (x : X) (ys : List X) (b : Bool) → list_any (alike x) ys ≡ false → AreApart alike ys → AreApart alike (if b then x ∷ ys else ys)
    kept alike x ys true h e = (h, e)
    kept alike x ys false h e = e

not_true : (b : Bool) → b ≡ true → not b ≡ false
not_true b h = ap not h

pub apart_once : {X : Type 0} (alike : X → X → Bool) (xs : List X) → AreApart alike (each_once alike xs)
apart_once alike [] = tt
apart_once alike (x ∷ xs) = (
  any-filter_same (alike x) (λ z. not (alike x z)) false (λ z p. not_true (alike x z) p) (each_once alike xs),
  apart_filter alike (λ z. not (alike x z)) (each_once alike xs) (apart_once alike xs),
)

-- ---- no or one element

pub few_once : {X : Type 0} (alike : X → X → Bool) (xs : List X) → length xs < 2 → xs ≡ each_once alike xs
few_once alike [] few = refl
few_once alike (x ∷ []) few = refl
few_once alike (x ∷ y ∷ ys) few = absurd (omega arith)
